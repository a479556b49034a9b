-- Statements at other places are the same but for places.
use Rattle.std.proofs.Common.{◌≡◌, ◌≢◌, ℕ, ◌+◌, [], Option, None, Some, refl, sym, ap, ◌∙◌, subst}
use Rattle.ae_text.specs.declared.refusal.Spot.{Spot}
use Rattle.ae_text.specs.declared.token.Keyword.TheVariants as word
use Rattle.ae_text.specs.declared.token.Sign.TheVariants as sign
use Rattle.ae_tree.specs.declared.lexeme.Lexical.TheVariants as tok
use Rattle.ae_tree.specs.declared.tree.Path.{Path}
use Rattle.ae_tree.specs.Plain.{Expression, Lines, End, Next}
use Rattle.ae_tree.specs.Plain.{Action, Declares, Assigns, Stores, StoresAt, Calls, Chooses, ChoosesElse, Repeats}
use Rattle.ae_tree.specs.Plain.{Groups, Splits, Locks, Freezes, Shares, Prints, PrintsText, Asserts, Returns}
use Rattle.ae_tree.specs.Grammar.{Tokens, ◌⨾◌, blocks_opened, opened_in, call_spot, in_braces, statement, statements}
use Rattle.ae_tree.specs.Grammar.{return_end, with_return, method_body}
use Rattle.ae_layout.specs.Places.{nowhere, unplaced_name, unplaced_path, unplaced_expression, unplaced_action}
use Rattle.ae_layout.specs.Places.{unplaced_lines}
use Rattle.ae_layout.proofs.Moved.{ap2, ap3, Lang, Moves, Moved, moves_then, moves_at, moves_mark, moves_sign}
use Rattle.ae_layout.proofs.Moved.{moves_word, nothing_stays_nothing, not_empty, moved_name, moved_names, moved_path, moved_type}
use Rattle.ae_layout.proofs.Moved.{moved_whole, moved_call, moved_right}

-- ---- the numbers of blocks

mutual
  -- as many blocks are opened without places
  bare_opened : (a : Action) → blocks_opened (unplaced_action a) ≡ blocks_opened a
  bare_opened (Declares t x e) = refl
  bare_opened (Assigns x e) = refl
  bare_opened (Stores p e) = refl
  bare_opened (StoresAt p i e) = refl
  bare_opened (Calls c) = refl
  bare_opened (Chooses e n b) = ap (λ k. 1 + k) (bare_opened_in b)
  bare_opened (ChoosesElse e n b m c) = ap2 (λ k j. 1 + k + 1 + j) (bare_opened_in b) (bare_opened_in c)
  bare_opened (Repeats e n b) = ap (λ k. 1 + k) (bare_opened_in b)
  bare_opened (Groups g) = refl
  bare_opened (Splits gs n b) = ap (λ k. 1 + k) (bare_opened_in b)
  bare_opened (Locks g n b) = ap (λ k. 1 + k) (bare_opened_in b)
  bare_opened (Freezes x) = refl
  bare_opened (Shares x g) = refl
  bare_opened (Prints e) = refl
  bare_opened (PrintsText s) = refl
  bare_opened (Asserts e) = refl
  bare_opened (Returns e) = refl

  bare_opened_in : (b : Lines) → opened_in (unplaced_lines b) ≡ opened_in b
  bare_opened_in End = refl
  bare_opened_in (Next at a rest) = ap2 (λ k j. k + j) (bare_opened a) (bare_opened_in rest)

same_opened : (a b : Action) → unplaced_action b ≡ unplaced_action a → blocks_opened a ≡ blocks_opened b
same_opened a b e = sym (bare_opened a) ∙ ap blocks_opened (sym e) ∙ bare_opened b

same_opened_in : (a b : Lines) → unplaced_lines b ≡ unplaced_lines a → opened_in a ≡ opened_in b
same_opened_in a b e = sym (bare_opened_in a) ∙ ap opened_in (sym e) ∙ bare_opened_in b

-- ---- statements

moves_braced : {A : Type 0} {p : Tokens → Type 0} {E : Lang A} {S : A → Type 0} → Moves p E S
    → Moves (in_braces p) (λ y. in_braces (E y)) S
moves_braced m us vs e d =
    let a = moves_then (moves_sign sign.OpenBrace) (moves_then m (moves_sign sign.CloseBrace)) us vs e d in
    record { y = a.y.1.0; is = a.is; same = a.same.1.0 }

-- a statement and its place
abbrev Placed : ℕ → Lang (Spot × Action)
Placed n x = statement n x.0 x.1

-- tokens of the same kinds stand for a statement that is the same but for places
abbrev MovesTo : ℕ → (Tokens → Type 0) → Action → Type 0
MovesTo n p a = Moves p (Placed n) (λ (y : Spot × Action). unplaced_action y.1 ≡ unplaced_action a)

-- and so for statements whose blocks are numbered from n on
abbrev Block : ℕ → Lines → Type 0
Block n b = Moves (statements n b) (statements n) (λ c. unplaced_lines c ≡ unplaced_lines b)

-- a path with steps has steps at other places
still_steps : (p q : Path) → unplaced_path q ≡ unplaced_path p → p.steps ≢ [] → q.steps ≢ []
still_steps p q e n = not_empty unplaced_name p.steps q.steps (ap (λ (r : Path). r.steps) e) n

mutual
  pub moved_statement : (n : ℕ) (at : Spot) (x : Action) → MovesTo n (statement n at x) x
  moved_statement n at (Declares t x r) us vs e d =
      let a = moves_then (moves_at (tok.Word word.Let) at)
      (moves_then (moved_type t) (moves_then (moved_name x)
      (moves_then (moves_sign sign.Assign) (moves_then (moved_right r) (moves_sign sign.Semicolon))))) us vs e
      d in
      record {
        y = (a.y.0, Declares a.y.1.0 a.y.1.1.0 a.y.1.1.1.1.0);
        is = a.is;
        same =
            ap3 Declares a.same.1.0 a.same.1.1.0 a.same.1.1.1.1.0;
      }
  moved_statement n at (Assigns x r) us vs e d =
      let a = moves_then (moved_name x)
      (moves_then (moves_sign sign.Assign) (moves_then (moved_right r) (moves_sign sign.Semicolon))) us vs e
      d.1 in
      record { y = (a.y.0.at, Assigns a.y.0 a.y.1.1.0); is = (refl, a.is); same = ap2 Assigns a.same.0 a.same.1.1.0 }
  moved_statement n at (Stores p x) us vs e d =
      let a = moves_then (moved_path p)
      (moves_then (moves_sign sign.Assign) (moves_then (moved_whole x) (moves_sign sign.Semicolon))) us vs e
      d.2 in
      record {
        y = (a.y.0.root.at, Stores a.y.0 a.y.1.1.0);
        is = (refl, still_steps p a.y.0 a.same.0 d.1, a.is);
        same
            = ap2 Stores a.same.0 a.same.1.1.0;
      }
  moved_statement n at (StoresAt p i x) us vs e d =
      let a = moves_then (moved_path p)
      (moves_then (moves_sign sign.OpenBracket)
      (moves_then (moved_whole i) (moves_then (moves_sign sign.CloseBracket)
      (moves_then (moves_sign sign.Assign) (moves_then (moved_whole x) (moves_sign sign.Semicolon)))))) us vs e
      d.1 in
      record {
        y = (a.y.0.root.at, StoresAt a.y.0 a.y.1.1.0 a.y.1.1.1.1.1.0);
        is =
            (refl, a.is);
        same = ap3 StoresAt a.same.0 a.same.1.1.0 a.same.1.1.1.1.1.0;
      }
  moved_statement n at (Calls c) us vs e d =
      let a = moves_then (moved_call c) (moves_sign sign.Semicolon) us vs e d.1 in
      record { y = (call_spot a.y.0, Calls a.y.0); is = (refl, a.is); same = ap Calls a.same.0 }
  moved_statement n at (Chooses x k b) us vs e d =
      let a = moves_then (moves_at (tok.Word word.If) at)
      (moves_then (moved_whole x) (moves_braced (moved_statements (n + 1) b))) us vs e d.1 in
      record {
        y = (a.y.0, Chooses a.y.1.0 k a.y.1.1);
        is =
            (d.0, a.is);
        same = ap2 (λ z c. Chooses z k c) a.same.1.0 a.same.1.1;
      }
  moved_statement n at (ChoosesElse x k b m c) us vs e d =
      let a = moves_then (moves_at (tok.Word word.If) at)
      (moves_then (moved_whole x) (moves_then (moves_braced (moved_statements (n + 1) b))
      (moves_then (moves_word word.Else) (moves_braced (moved_statements (m + 1) c))))) us vs e d.2 in
      record {
        y = (a.y.0, ChoosesElse a.y.1.0 k a.y.1.1.0 m a.y.1.1.1.1);
        is =
            (d.0, d.1 ∙ ap (λ j. n + 1 + j) (same_opened_in b a.y.1.1.0 a.same.1.1.0), a.is);
        same =
            ap3 (λ z f g. ChoosesElse z k f m g) a.same.1.0 a.same.1.1.0 a.same.1.1.1.1;
      }
  moved_statement n at (Repeats x k b) us vs e d =
      let a = moves_then (moves_at (tok.Word word.While) at)
      (moves_then (moved_whole x) (moves_braced (moved_statements (n + 1) b))) us vs e d.1 in
      record {
        y = (a.y.0, Repeats a.y.1.0 k a.y.1.1);
        is =
            (d.0, a.is);
        same = ap2 (λ z c. Repeats z k c) a.same.1.0 a.same.1.1;
      }
  moved_statement n at (Groups g) us vs e d =
      let a = moves_then (moves_at (tok.Word word.Group) at) (moves_then (moved_name g) (moves_sign sign.Semicolon))
      us vs e d in
      record { y = (a.y.0, Groups a.y.1.0); is = a.is; same = ap Groups a.same.1.0 }
  moved_statement n at (Splits gs k b) us vs e d =
      let a = moves_then (moves_at (tok.Word word.Split) at)
      (moves_then (moved_names gs) (moves_braced (moved_statements (n + 1) b))) us vs e d.1 in
      record {
        y = (a.y.0, Splits a.y.1.0 k a.y.1.1);
        is =
            (d.0, a.is);
        same = ap2 (λ z c. Splits z k c) a.same.1.0 a.same.1.1;
      }
  moved_statement n at (Locks g k b) us vs e d =
      let a = moves_then (moves_at (tok.Word word.Atomic) at)
      (moves_then (moved_name g) (moves_braced (moved_statements (n + 1) b))) us vs e d.1 in
      record {
        y = (a.y.0, Locks a.y.1.0 k a.y.1.1);
        is =
            (d.0, a.is);
        same = ap2 (λ z c. Locks z k c) a.same.1.0 a.same.1.1;
      }
  moved_statement n at (Freezes x) us vs e d =
      let a = moves_then (moves_at (tok.Word word.Freeze) at) (moves_then (moved_name x) (moves_sign sign.Semicolon))
      us vs e d in
      record { y = (a.y.0, Freezes a.y.1.0); is = a.is; same = ap Freezes a.same.1.0 }
  moved_statement n at (Shares x g) us vs e d =
      let a = moves_then (moves_at (tok.Word word.Share) at)
      (moves_then (moved_name x) (moves_then (moves_word word.Into)
      (moves_then (moved_name g) (moves_sign sign.Semicolon)))) us vs e d in
      record { y = (a.y.0, Shares a.y.1.0 a.y.1.1.1.0); is = a.is; same = ap2 Shares a.same.1.0 a.same.1.1.1.0 }
  moved_statement n at (Prints x) us vs e d =
      let a = moves_then (moves_at (tok.Word word.Print) at) (moves_then (moved_whole x) (moves_sign sign.Semicolon))
      us vs e d in
      record { y = (a.y.0, Prints a.y.1.0); is = a.is; same = ap Prints a.same.1.0 }
  moved_statement n at (PrintsText s) us vs e d =
      let a = moves_then (moves_at (tok.Word word.Print) at)
      (moves_then (moves_mark (tok.Text s)) (moves_sign sign.Semicolon)) us vs e d in
      record { y = (a.y.0, PrintsText s); is = a.is; same = refl }
  moved_statement n at (Asserts x) us vs e d =
      let a = moves_then (moves_at (tok.Word word.Assert) at) (moves_then (moved_whole x) (moves_sign sign.Semicolon))
      us vs e d in
      record { y = (a.y.0, Asserts a.y.1.0); is = a.is; same = ap Asserts a.same.1.0 }
  moved_statement n at (Returns x) us vs e d = absurd d

  pub moved_statements : (n : ℕ) (b : Lines) → Block n b
  moved_statements n End us vs e d = record { y = End; is = nothing_stays_nothing us vs e d; same = refl }
  moved_statements n (Next at x rest) us vs e d =
      let a = moves_then (moved_statement n at x) (moved_statements (n + blocks_opened x) rest) us vs e d in
      let P : ℕ → Type 0 = λ k. (statement n a.y.0.0 a.y.0.1 ⨾ statements (n + k) a.y.1) vs in
      record {
        y = Next a.y.0.0 a.y.0.1 a.y.1;
        is = subst P (same_opened x a.y.0.1 a.same.0) a.is;
        same =
            ap2 (Next nowhere) a.same.0 a.same.1;
      }

-- ---- bodies

unplaced_return : Option (Spot × Expression) → Option (Spot × Expression)
unplaced_return None = None
unplaced_return (Some r) = Some (nowhere, unplaced_expression r.1)

moved_returning : (r : Option (Spot × Expression)) → Moved return_end unplaced_return r
unfolding unplaced_return
moved_returning None us vs e d = record { y = None; is = nothing_stays_nothing us vs e d; same = refl }
moved_returning (Some r) us vs e d =
    let a = moves_then (moves_at (tok.Word word.Return) r.0)
    (moves_then (moved_whole r.1) (moves_sign sign.Semicolon)) us vs e d in
    record { y = Some (a.y.0, a.y.1.0); is = a.is; same = ap (λ z. Some (nowhere, z)) a.same.1.0 }

bare_with_return : (b : Lines) (r : Option (Spot × Expression)) → unplaced_lines (with_return b r)
    ≡ with_return (unplaced_lines b) (unplaced_return r)
unfolding unplaced_return
bare_with_return End None = refl
bare_with_return End (Some r) = refl
bare_with_return (Next at x rest) r = ap (Next nowhere (unplaced_action x)) (bare_with_return rest r)

pub moved_body : (b : Lines) → Moved method_body unplaced_lines b
moved_body b us vs e d =
    let front : Lines = d.0 in
    let r : Option (Spot × Expression) = d.1 in
    let a = moves_braced (moves_then (moved_statements 1 front) (moved_returning r)) us vs e d.3 in
    let same : unplaced_lines (with_return a.y.0 a.y.1) ≡ unplaced_lines b = bare_with_return a.y.0 a.y.1
    ∙ ap2 with_return a.same.0 a.same.1 ∙ sym (bare_with_return front r) ∙ ap unplaced_lines (sym d.2) in
    record { y = with_return a.y.0 a.y.1; is = (a.y.0, a.y.1, refl, a.is); same = same }
