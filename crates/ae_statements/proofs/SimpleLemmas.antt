-- Statements with no block and no path in front.
use Rattle.std.proofs.Common.{◌≡◌, ℕ, ◌++◌, List, [], ◌∷◌, length, append_assoc, ◌⊎◌, inl, inr, Option, Some, None}
use Rattle.std.proofs.Common.{refl, sym, ap, ◌∙◌, subst}
use Rattle.ae_text.specs.declared.refusal.Spot.{Spot}
use Rattle.ae_text.specs.declared.token.Keyword.{Keyword}
use Rattle.ae_text.specs.declared.token.Keyword.TheVariants as word
use Rattle.ae_text.specs.declared.token.Sign.TheVariants as sign
use Rattle.ae_tree.specs.declared.lexeme.Lexeme.{Lexeme}
use Rattle.ae_tree.specs.declared.lexeme.Lexical.{Lexical}
use Rattle.ae_tree.specs.declared.lexeme.Lexical.TheVariants as tok
use Rattle.ae_tree.specs.declared.limits.Limit.{Limit}
use Rattle.ae_tree.specs.declared.tree.NameAt.{NameAt}
use Rattle.ae_tree.specs.declared.tree.Ty.{Ty}
use Rattle.ae_tree.specs.Plain.{Expression, RightSide, Value}
use Rattle.ae_tree.specs.Plain.{Action, Declares, Assigns, Stores, StoresAt, Calls, Chooses, ChoosesElse, Repeats}
use Rattle.ae_tree.specs.Plain.{Groups, Splits, Locks, Freezes, Shares, Prints, PrintsText, Asserts, Returns}
use Rattle.ae_tree.specs.Grammar.{Tokens, name, type_, whole_expression, right_of_equals, statement}
use Rattle.ae_tree.specs.Limits.{KeepsDepth, KeepsRight, KeepsIn}
use Rattle.ae_reading.specs.declared.fail.Fail.{Fail}
use Rattle.ae_reading.specs.declared.fail.Why.TheVariants.{Unexpected}
use Rattle.ae_reading.specs.Reads.{head, Always, Free, Is, Isnt, Took, Stopped, Failed, Token}
use Rattle.ae_statements.proofs.from_reading.ReadsLemmas.{Lang, Bound, Links, Both, Pair, Has, Along, NoneAt}
use Rattle.ae_statements.proofs.from_reading.ReadsLemmas.{took_as, failed_as, has_both, has_name, stopped_here}
use Rattle.ae_statements.proofs.from_reading.ReadsLemmas.{nowhere, at_once, took_before, failed_before}
use Rattle.ae_statements.proofs.from_reading.Begins.{opens_at, opens_isnt}
use Rattle.ae_statements.specs.Productions.{with_semicolon, local_value, text, print_operand, IsText, KeepsPrinted}
use Rattle.ae_statements.specs.Productions.{stmt, KeepsStmt, NoElse}
use Rattle.ae_statements.proofs.ShapeLemmas.{Pre, has_pre, has_suf, has_whole}
use Rattle.ae_statements.proofs.CallLemmas.{no_whole}
use Rattle.ae_statements.proofs.FormLemmas.{Formed, formed}
use Rattle.ae_statements.proofs.from_reading.TypeLemmas.{has_type}

-- a form of a statement that ends by itself
pub simple_took : {B : Type 0} {E : Lang B} {V : Bound B} {n levels : ℕ} {ts rest : Tokens} {q : B}
    (build : B → Spot × Action) →
    Along (stmt n) E (KeepsStmt levels) V ts build → Took E V Always ts q rest
    → Took (stmt n) (KeepsStmt levels) NoElse ts (build q) rest
simple_took {B} {E} {V} {n} build a t = took_before {F = Always} (λ o f. tt) (took_as (stmt n) E build a t)

pub simple_failed : {B : Type 0} {E : Lang B} {V : Bound B} {n levels : ℕ} {ts : Tokens} {e : Fail}
    (build : B → Spot × Action) →
    Along (stmt n) E (KeepsStmt levels) V ts build → Failed E V Always ts e
    → Failed (stmt n) (KeepsStmt levels) NoElse ts e
simple_failed {B} {E} {V} {n} build a f = failed_before {F = Always} (λ o f. tt) (failed_as (stmt n) E build a f)

abbrev pub semicolon : Lexical
semicolon = tok.Sign sign.Semicolon

-- ---- completions

pub has_ended : {A : Type 0} (D : Lang A) {W : Bound A} → Has D W → Has (with_semicolon D) W
has_ended D x = has_suf semicolon D tt x

pub has_right_side : Has right_of_equals KeepsRight
has_right_side = record {
  tree = Value has_whole.tree;
  tokens = has_whole.tokens;
  is = has_whole.is;
  known =
      has_whole.known;
  within = has_whole.within;
}

pub has_value : Has local_value KeepsRight
has_value = has_pre (tok.Sign sign.Assign) (with_semicolon right_of_equals) tt
    (has_ended right_of_equals has_right_side)

-- ---- a new local

abbrev pub Declaration : Type 0
Declaration = Spot × (Ty × (NameAt × RightSide))

abbrev pub declaration : Lang Declaration
declaration = Both (Token (tok.Word word.Let)) (Both type_ (Both name local_value))

abbrev pub declaration_limit : Bound Declaration
declaration_limit = Pair Free (Pair Free (Pair Free KeepsRight))

abbrev pub declared : Declaration → Spot × Action
declared q = (q.0, Declares q.1.0 q.1.1.0 q.1.1.1)

declared_cases : (n : ℕ) (y : Spot × Action) (us : Tokens) → stmt n y us → Formed (tok.Word word.Let) y.1
    → (q : Declaration) × (y ≡ declared q) × declaration q us
declared_cases n y us d f = (
  (y.0, (f.0, (f.1, f.2))),
  ap (λ a. (y.0, a)) f.3,
  (let P : Action → Type 0 = λ a. statement n y.0 a us in subst P f.3 d),
)

pub declaration_along : (n levels : ℕ) (ts : Tokens) → Is (tok.Word word.Let) (head ts)
    → Along (stmt n) declaration (KeepsStmt levels) declaration_limit ts declared
declaration_along n levels ts is = record {
  intro = λ q us d. d;
  cases = λ y us r d h. declared_cases n y us d (formed (tok.Word word.Let) n y us r ts d h is);
  to = λ q us d l v. v.1.1.1;
  from = λ q us d l v. (tt, (tt, (tt, v)));
}

pub has_bound : Has (Both name local_value) (Pair Free KeepsRight)
has_bound = has_both has_name has_value

pub has_typed : Has (Both type_ (Both name local_value)) (Pair Free (Pair Free KeepsRight))
has_typed = has_both has_type has_bound

name_no_less : (n : ℕ) → tok.Name n ≡ tok.Sign sign.Less → ⊥
name_no_less n e = cc

-- a name may follow a type
pub name_follows : Links (Both name local_value) Always (Isnt (tok.Sign sign.Less))
name_follows y us r d f = opens_isnt us r (opens_at us r d) (name_no_less y.0.name)

-- ---- a word, and one part that ends by itself

abbrev pub Worded : {B : Type 0} → Keyword → Lang B → Lang (Spot × B)
Worded w E = Both (Token (tok.Word w)) E

abbrev pub grouped : Spot × NameAt → Spot × Action
grouped q = (q.0, Groups q.1)

grouped_cases : (n : ℕ) (y : Spot × Action) (us : Tokens) → stmt n y us → Formed (tok.Word word.Group) y.1
    → (q : Spot × NameAt) × (y ≡ grouped q) × Worded word.Group (with_semicolon name) q us
grouped_cases n y us d f = (
  (y.0, f.0),
  ap (λ a. (y.0, a)) f.1,
  (let P : Action → Type 0 = λ a. statement n y.0 a us in subst P f.1 d),
)

pub group_along : (n levels : ℕ) (ts : Tokens) → Is (tok.Word word.Group) (head ts)
    → Along (stmt n) (Worded word.Group (with_semicolon name)) (KeepsStmt levels) (Pair Free Free) ts grouped
group_along n levels ts is = record {
  intro = λ q us d. d;
  cases = λ y us r d h. grouped_cases n y us d (formed (tok.Word word.Group) n y us r ts d h is);
  to = λ q us d l v. tt;
  from = λ q us d l v. (tt, tt);
}

abbrev pub frozen : Spot × NameAt → Spot × Action
frozen q = (q.0, Freezes q.1)

frozen_cases : (n : ℕ) (y : Spot × Action) (us : Tokens) → stmt n y us → Formed (tok.Word word.Freeze) y.1
    → (q : Spot × NameAt) × (y ≡ frozen q) × Worded word.Freeze (with_semicolon name) q us
frozen_cases n y us d f = (
  (y.0, f.0),
  ap (λ a. (y.0, a)) f.1,
  (let P : Action → Type 0 = λ a. statement n y.0 a us in subst P f.1 d),
)

pub freezing_along : (n levels : ℕ) (ts : Tokens) → Is (tok.Word word.Freeze) (head ts)
    → Along (stmt n) (Worded word.Freeze (with_semicolon name)) (KeepsStmt levels) (Pair Free Free) ts frozen
freezing_along n levels ts is = record {
  intro = λ q us d. d;
  cases = λ y us r d h. frozen_cases n y us d (formed (tok.Word word.Freeze) n y us r ts d h is);
  to = λ q us d l v. tt;
  from = λ q us d l v. (tt, tt);
}

abbrev pub asserted : Spot × Expression → Spot × Action
asserted q = (q.0, Asserts q.1)

asserted_cases : (n : ℕ) (y : Spot × Action) (us : Tokens) → stmt n y us → Formed (tok.Word word.Assert) y.1
    → (q : Spot × Expression) × (y ≡ asserted q) × Worded word.Assert (with_semicolon whole_expression) q us
asserted_cases n y us d f = (
  (y.0, f.0),
  ap (λ a. (y.0, a)) f.1,
  (let P : Action → Type 0 = λ a. statement n y.0 a us in subst P f.1 d),
)

pub assertion_along : (n levels : ℕ) (ts : Tokens) → Is (tok.Word word.Assert) (head ts)
    → Along (stmt n) (Worded word.Assert (with_semicolon whole_expression)) (KeepsStmt levels)
    (Pair Free KeepsDepth) ts asserted
assertion_along n levels ts is = record {
  intro = λ q us d. d;
  cases = λ y us r d h. asserted_cases n y us d (formed (tok.Word word.Assert) n y us r ts d h is);
  to = λ q us d l v. v.1;
  from = λ q us d l v. (tt, v);
}

-- ---- a local that is shared

abbrev pub into : Lang NameAt
into = Pre (tok.Word word.Into) (with_semicolon name)

abbrev pub sharing : Lang (Spot × (NameAt × NameAt))
sharing = Worded word.Share (Both name into)

abbrev pub shared_limit : Bound (Spot × (NameAt × NameAt))
shared_limit = Pair Free (Pair Free Free)

abbrev pub shared : Spot × (NameAt × NameAt) → Spot × Action
shared q = (q.0, Shares q.1.0 q.1.1)

shared_cases : (n : ℕ) (y : Spot × Action) (us : Tokens) → stmt n y us → Formed (tok.Word word.Share) y.1
    → (q : Spot × (NameAt × NameAt)) × (y ≡ shared q) × sharing q us
shared_cases n y us d f = (
  (y.0, (f.0, f.1)),
  ap (λ a. (y.0, a)) f.2,
  (let P : Action → Type 0 = λ a. statement n y.0 a us in subst P f.2 d),
)

pub sharing_along : (n levels : ℕ) (ts : Tokens) → Is (tok.Word word.Share) (head ts)
    → Along (stmt n) sharing (KeepsStmt levels) shared_limit ts shared
sharing_along n levels ts is = record {
  intro = λ q us d. d;
  cases = λ y us r d h. shared_cases n y us d (formed (tok.Word word.Share) n y us r ts d h is);
  to = λ q us d l v. tt;
  from = λ q us d l v. (tt, (tt, tt));
}

pub has_into : Has into Free
has_into = has_pre (tok.Word word.Into) (with_semicolon name) tt (has_ended name has_name)

pub has_shared : Has (Both name into) (Pair Free Free)
has_shared = has_both has_name has_into

-- ---- what is printed

abbrev pub texted : List ℕ → Action
texted s = PrintsText s

abbrev pub has_text : Has text Free
has_text = record {
  tree = [];
  tokens = at_once (tok.Text []);
  is = (nowhere, refl);
  known = (tt, tt);
  within =
      λ l. tt;
}

abbrev pub text_token : Spot → List ℕ → Lexeme
text_token at s = record { kind = tok.Text s; at = at }

text_of_kind : (s u : List ℕ) → tok.Text s ≡ tok.Text u → s ≡ u
text_of_kind s u e = cc

pub text_took : (ts rest : Tokens) (t : Lexeme) (s : List ℕ) → ts ≡ t ∷ rest → t.kind ≡ tok.Text s
    → Took text Free Always ts s rest
text_took ts rest t s e is =
    let same : t ≡ text_token t.at s = ap (λ k. record { kind = k; at = t.at }) is in
    record {
      taken = text_token t.at s ∷ [];
      whole = e ∙ ap (λ l. l ∷ rest) same;
      derives = (t.at, refl);
      within = λ l. tt;
      no_end = ((λ k. cc), tt);
      only = λ y us r other d w h u.
          let all : text_token d.0 y ∷ r ≡ text_token t.at s ∷ other = sym (ap (λ l. l ++ r) d.1) ∙ w in
          let heads : text_token d.0 y ≡ text_token t.at s = cc in
          (text_of_kind y s (ap (λ (l : Lexeme). l.kind) heads), cc);
    }

text_first : (y : List ℕ) (us r : Tokens) → text y us → (at : Spot) × (head (us ++ r) ≡ Some (text_token at y))
text_first y us r d = (d.0, ap (λ l. head (l ++ r)) d.1)

pub no_text : (ts : Tokens) → (IsText (head ts) → ⊥) → NoneAt text ts
no_text ts other y us r d h =
    let f = text_first y us r d in
    let P : Option Lexeme → Type 0 = IsText in
    other (subst P (sym f.1 ∙ h) (y, refl))

pub text_stopped : (ts : Tokens) → (IsText (head ts) → ⊥) → Stopped text Free Always ts Unexpected (length ts)
text_stopped ts other = stopped_here has_text (no_text ts other)

no_text_end : (ts : Tokens) → ts ≡ [] → IsText (head ts) → ⊥
no_text_end ts e i = let P : Tokens → Type 0 = λ l. IsText (head l) in subst P e i

pub text_end : (ts : Tokens) → ts ≡ [] → Stopped text Free Always ts Unexpected (length ts)
text_end ts e = text_stopped ts (no_text_end ts e)

other_text : (ts rest : Tokens) (t : Lexeme) → ts ≡ t ∷ rest → ((s : List ℕ) → t.kind ≡ tok.Text s → ⊥)
    → IsText (head ts) → ⊥
other_text ts rest t e other i = let P : Tokens → Type 0 = λ l. IsText (head l) in at_one (subst P e i)
  where
    at_one : IsText (Some t) → ⊥
    at_one j = other j.0 j.1

pub text_other : (ts rest : Tokens) (t : Lexeme) → ts ≡ t ∷ rest → ((s : List ℕ) → t.kind ≡ tok.Text s → ⊥)
    → Stopped text Free Always ts Unexpected (length ts)
text_other ts rest t e other = text_stopped ts (other_text ts rest t e other)

printed_cases : (y : Action) (us : Tokens) → print_operand y us
    → ((e : Expression) × (y ≡ Prints e) × with_semicolon whole_expression e us)
    ⊎ ((s : List ℕ) × (y ≡ PrintsText s) × with_semicolon text s us)
printed_cases (Prints e) us d = inl (e, refl, d)
printed_cases (PrintsText s) us d = inr (s, refl, d)
printed_cases (Declares t x e) us d = absurd d
printed_cases (Assigns x e) us d = absurd d
printed_cases (Stores p e) us d = absurd d
printed_cases (StoresAt p i e) us d = absurd d
printed_cases (Calls c) us d = absurd d
printed_cases (Chooses e n b) us d = absurd d
printed_cases (ChoosesElse e n b m c) us d = absurd d
printed_cases (Repeats e n b) us d = absurd d
printed_cases (Groups g) us d = absurd d
printed_cases (Splits gs n b) us d = absurd d
printed_cases (Locks g n b) us d = absurd d
printed_cases (Freezes x) us d = absurd d
printed_cases (Shares x g) us d = absurd d
printed_cases (Asserts e) us d = absurd d
printed_cases (Returns e) us d = absurd d

-- no expression begins with a text
no_expression : (e : Expression) (us r ts : Tokens) → with_semicolon whole_expression e us → head (us ++ r) ≡ head ts
    → IsText (head ts) → ⊥
no_expression e us r ts d h is = at_text (head ts) is refl
  where
    at_text : (o : Option Lexeme) → IsText o → o ≡ head ts → ⊥
    at_text None i same = i
    at_text (Some t) i same =
        let P : Option Lexeme → Type 0 = Is (tok.Text i.0) in
        no_whole (tok.Text i.0) ts refl (subst P same i.1) e d.front (d.back ++ r) d.first
        (ap head (sym (append_assoc d.front d.back r) ∙ ap (λ l. l ++ r) (sym d.parts)) ∙ h)

no_text_here : (s : List ℕ) (us r ts : Tokens) → with_semicolon text s us → head (us ++ r) ≡ head ts
    → (IsText (head ts) → ⊥) → ⊥
no_text_here s us r ts d h other = no_text ts other s d.front (d.back ++ r) d.first
    (ap head (sym (append_assoc d.front d.back r) ∙ ap (λ l. l ++ r) (sym d.parts)) ∙ h)

texted_case : (y : Action) (us r ts : Tokens) → head (us ++ r) ≡ head ts → IsText (head ts) →
    ((e : Expression) × (y ≡ Prints e) × with_semicolon whole_expression e us)
    ⊎ ((s : List ℕ) × (y ≡ PrintsText s) × with_semicolon text s us) → (s : List ℕ) × (y ≡ PrintsText s)
    × with_semicolon text s us
texted_case y us r ts h is (inl c) = absurd (no_expression c.0 us r ts c.2 h is)
texted_case y us r ts h is (inr c) = c

shown_case : (y : Action) (us r ts : Tokens) → head (us ++ r) ≡ head ts → (IsText (head ts) → ⊥) →
    ((e : Expression) × (y ≡ Prints e) × with_semicolon whole_expression e us)
    ⊎ ((s : List ℕ) × (y ≡ PrintsText s) × with_semicolon text s us) → (e : Expression) × (y ≡ Prints e)
    × with_semicolon whole_expression e us
shown_case y us r ts h other (inl c) = c
shown_case y us r ts h other (inr c) = absurd (no_text_here c.0 us r ts c.2 h other)

pub text_along : (ts : Tokens) → IsText (head ts)
    → Along print_operand (with_semicolon text) KeepsPrinted Free ts texted
text_along ts is = record {
  intro = λ q us d. d;
  cases = λ y us r d h. texted_case y us r ts h is (printed_cases y us d);
  to = λ q us d l v. tt;
  from = λ q us d l v. tt;
}

pub shown_along : (ts : Tokens) → (IsText (head ts) → ⊥)
    → Along print_operand (with_semicolon whole_expression) KeepsPrinted KeepsDepth ts Prints
shown_along ts other = record {
  intro = λ q us d. d;
  cases = λ y us r d h. shown_case y us r ts h other (printed_cases y us d);
  to = λ q us d l v. v;
  from = λ q us d l v. v;
}

pub has_printed : Has print_operand KeepsPrinted
has_printed = let x = has_ended whole_expression has_whole in record
    { tree = Prints x.tree; tokens = x.tokens; is = x.is; known = x.known; within = x.within }

abbrev pub print_tree : Spot × Action → Spot × Action
print_tree q = q

print_case : (n : ℕ) (y : Spot × Action) (us : Tokens) → stmt n y us → Formed (tok.Word word.Print) y.1
    → Worded word.Print print_operand y us
print_case n y us d (inl f) = let P : Action → Type 0 = λ a. Worded word.Print print_operand (y.0, a) us in let Q
    : Action → Type 0 = λ a. statement n y.0 a us in subst P (sym f.1) (subst Q f.1 d)
print_case n y us d (inr f) = let P : Action → Type 0 = λ a. Worded word.Print print_operand (y.0, a) us in let Q
    : Action → Type 0 = λ a. statement n y.0 a us in subst P (sym f.1) (subst Q f.1 d)

print_intro : (n : ℕ) (at : Spot) (a : Action) (us : Tokens) → Worded word.Print print_operand (at, a) us
    → stmt n (at, a) us
print_intro n at a us d = by_case (printed_cases a d.back d.second)
  where
    by_case : ((e : Expression) × (a ≡ Prints e) × with_semicolon whole_expression e d.back)
        ⊎ ((s : List ℕ) × (a ≡ PrintsText s) × with_semicolon text s d.back) → stmt n (at, a) us
    by_case (inl c) = let P : Action → Type 0 = λ b. statement n at b us in subst P (sym c.1)
        (record { front = d.front; back = d.back; parts = d.parts; first = d.first; second = c.2 })
    by_case (inr c) = let P : Action → Type 0 = λ b. statement n at b us in subst P (sym c.1)
        (record { front = d.front; back = d.back; parts = d.parts; first = d.first; second = c.2 })

print_keeps : (n m : ℕ) (a : Action) (us : Tokens) → print_operand a us → (l : Limit) → KeepsIn l n a → KeepsIn l m a
print_keeps n m a us d l = by_case (printed_cases a us d)
  where
    by_case : ((e : Expression) × (a ≡ Prints e) × with_semicolon whole_expression e us)
        ⊎ ((s : List ℕ) × (a ≡ PrintsText s) × with_semicolon text s us) → KeepsIn l n a → KeepsIn l m a
    by_case (inl c) v = let P : Action → Type 0 = λ b. KeepsIn l m b in let Q : Action → Type 0 =
        λ b. KeepsIn l n b in subst P (sym c.1) (subst Q c.1 v)
    by_case (inr c) v = let P : Action → Type 0 = λ b. KeepsIn l m b in subst P (sym c.1) tt

pub printing_along : (n levels : ℕ) (ts : Tokens) → Is (tok.Word word.Print) (head ts)
    → Along (stmt n) (Worded word.Print print_operand) (KeepsStmt levels) (Pair Free KeepsPrinted) ts print_tree
printing_along n levels ts is = record {
  intro = λ q us d. print_intro n q.0 q.1 us d;
  cases = λ y us r d h. (y, refl, print_case n y us d (formed (tok.Word word.Print) n y us r ts d h is));
  to = λ q us d l v. print_keeps 0 levels q.1 d.back d.second l v.1;
  from = λ q us d l v. (tt, print_keeps levels 0 q.1 d.back d.second l v);
}
