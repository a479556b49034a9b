-- The place of a refusal.
use Rattle.std.proofs.Common.{◌≡◌, ℕ, ◌+◌, ◌-◌, ◌<◌, ◌≤◌, ◌++◌, List, [], ◌∷◌, length, get_or, take, drop, refl, sym}
use Rattle.std.proofs.Common.{ap, ◌∙◌, append-nil, append_assoc, subst, inl, inr, arith, length-append}
use Rattle.std.proofs.Common.{length-take-le, take_at, take-append-drop}
use Rattle.std.proofs.lemmas.Option.{slice_get_read}
use Rattle.std.proofs.Math.Seq.{drop-append_seam, get_or-append_seam}
use Rattle.ae_text.specs.Tokens.{IsWhole}
use Rattle.ae_text.specs.declared.refusal.Rule.{Rule}
use Rattle.ae_text.specs.declared.token.Token.{Token}
use Rattle.ae_tree.specs.declared.lexeme.Lexeme.{Lexeme}
use Rattle.ae_tree.specs.declared.lexeme.Lexical.TheVariants as tok
use Rattle.ae_tree.specs.declared.limits.Limit.{Limit}
use Rattle.ae_tree.specs.declared.limits.Limit.TheVariants.{Statements, Levels, Depth, Params}
use Rattle.ae_tree.specs.Plain.{Definition, Code}
use Rattle.ae_tree.specs.Names.{names_of, numbered}
use Rattle.ae_tree.specs.Grammar.{Tokens, Declaration, methods_of}
use Rattle.ae_tree.specs.Limits.{KeepsMethod, KeepsTo, IsNearlyInLimits, Within, KeepsBefore}
use Rattle.std.specs.Prelude.{All}
use Rattle.ae_tree.specs.Refused.{Goes, GoesUpTo, Any, IsHead, CanPassAt, IsUnexpected, Passes, IsPlaced, IsOverAt}
use Rattle.ae_tree.specs.Refused.{BreaksAt, IsRefused, AreSpellable}
use Rattle.ae_reading.specs.declared.fail.Why.{Why}
use Rattle.ae_reading.specs.declared.fail.Why.TheVariants.{Unexpected, Over}
use Rattle.ae_reading.specs.Reads.{head, Always, EndIsNone, Counts, Larger, Stopped}
use Rattle.ae_parser.proofs.from_reading.Programs.{code_of}
use Rattle.ae_parser.specs.Reading.{whole_program, KeepsAll, KeepsAllWhole, Stands, Refuses, rule_of}
use Rattle.ae_parser.proofs.NamesLemmas.{lexemes_of, tokens_of, take-lexemes, lexemes-append}
use Rattle.ae_parser.proofs.SideLemmas.{back_within}
use Rattle.ae_parser.proofs.ProgramLemmas.{lexemes_derive, tokens_derive, last_lexeme, as_long}

-- ---- where it stands

-- tokens before the end leave the end
some_left : (front before rest : Tokens) (l : Lexeme) → front ++ l ∷ [] ≡ before ++ rest → l.kind ≡ tok.End
    → EndIsNone before → (next : Lexeme) × (later : Tokens) × (rest ≡ next ∷ later)
some_left [] [] rest l e is n = (l, [], sym e)
some_left (x ∷ front) [] rest l e is n = (x, front ++ l ∷ [], sym e)
some_left [] (y ∷ before) rest l e is n = let s : y ≡ l = cc in absurd (n.0 (ap (λ (x : Lexeme). x.kind) s ∙ is))
some_left (x ∷ front) (y ∷ before) rest l e is n = let f : front ++ l ∷ [] ≡ before
    ++ rest = cc in some_left front before rest l f is n.1

-- where the parser stops
abbrev pub Ends : List Token → Why → ℕ → Type 0
Ends ts why left = Stopped whole_program KeepsAllWhole Always (lexemes_of ts) why left

next_of : (ts : List Token) (why : Why) (left : ℕ) (s : Ends ts why left) → IsWhole ts
    → (next : Lexeme) × (later : Tokens) × (s.rest ≡ next ∷ later)
next_of ts why left s w =
    some_left (numbered (names_of ts) w.front) s.before s.rest (record { kind = tok.End; at = w.last.at })
    (sym (last_lexeme ts w) ∙ s.whole) refl s.no_end

back_fits : (why : Why) (before : Tokens) (back : ℕ) → Stands why before back → back ≤ length before
back_fits Unexpected before back p = omega (arith, p)
back_fits (Over Statements) before back p = omega (arith, p)
back_fits (Over Levels) before back p = omega (arith, p)
back_fits (Over Depth) before back p = back_within before back p
back_fits (Over Params) before back p = omega (arith, p)

lengths : (ts : List Token) (why : Why) (left : ℕ) (s : Ends ts why left) → length ts ≡ length s.before + length s.rest
lengths ts why left s = sym (as_long ts) ∙ ap length s.whole ∙ length-append s.before s.rest

-- where the refused token stands
abbrev pub Refused : List Token → Why → ℕ → Type 0
Refused ts why left = Refuses (lexemes_of ts) why left

left_within : (ts : List Token) (why : Why) (left : ℕ) → Refused ts why left → left ≤ length ts
left_within ts why left r =
    let s = r.stopped in
    omega (arith, r.left_is, s.left_is, lengths ts why r.stop s, back_fits why s.before r.back r.placed)

-- the tokens before the one at which the parser stops
stopped_before : (why : Why) (ts : Tokens) (left : ℕ) (s : Stopped whole_program KeepsAllWhole Always ts why left)
    → s.before ≡ take (length ts - left) ts
stopped_before why ts left s =
    let k : length s.before ≡ length ts - left =
    omega (arith, s.left_is, ap length s.whole, length-append s.before s.rest) in
    sym (ap (take (length ts - left)) s.whole ∙ take_at s.before s.rest (length ts - left) k)

-- from the refused token on, those between are left too
pub refuses : (why : Why) (ts : Tokens) (left back : ℕ) → Stopped whole_program KeepsAllWhole Always ts why left
    → Stands why (take (length ts - left) ts) back → Refuses ts why (left + back)
refuses why ts left back s p =
    let P : Tokens → Type 0 = λ before. Stands why before back in
    record {
      stop = left;
      stopped = s;
      back = back;
      left_is = refl;
      placed =
          subst P (sym (stopped_before why ts left s)) p;
    }

-- ---- what goes on

-- the tokens whose lexemes begin a program begin one
goes_on : (keeps : Code → Type 0) (ts : List Token) (n : ℕ) (before more : Tokens) (list : List Declaration)
    → n ≤ length ts → take n (lexemes_of ts) ≡ before →
    whole_program (list, tt) (before ++ more) → AreSpellable more
    → ((names : List (List ℕ)) → keeps (code_of names list)) → Goes keeps ts n
goes_on keeps ts n before more list le e d known kept =
    let whole : List Token = take n ts ++ tokens_of more in
    let is : lexemes_of whole ≡ before ++ more = lexemes-append (take n ts) more known
    ∙ ap (λ (l : Tokens). l ++ more) (sym (take-lexemes n ts) ∙ e) in
    let P : Tokens → Type 0 = whole_program (list, tt) in
    record {
      program = code_of (names_of whole) list;
      whole = whole;
      derives = tokens_derive whole list (subst P (sym is) d);
      same = take_at (take n ts) (tokens_of more) n (length-take-le n ts le);
      kept = kept (names_of whole);
    }

-- what begins with the same tokens has the same lexemes
same_lexemes : (ts whole : List Token) (n : ℕ) (before later : Tokens) (next : Lexeme) → n ≡ length before + 1
    → lexemes_of ts ≡ before ++ next ∷ later → take n whole ≡ take n ts →
    lexemes_of whole ≡ before ++ next ∷ drop n (lexemes_of whole)
same_lexemes ts whole n before later next n_is e same =
    let long : length (before ++ next ∷ []) ≡ n = length-append before (next ∷ []) ∙ sym n_is in
    let front : take n (lexemes_of whole) ≡ before ++ next ∷ [] =
    take-lexemes n whole ∙ ap lexemes_of same ∙ sym (take-lexemes n ts)
    ∙ ap (take n) (e ∙ sym (append_assoc before (next ∷ []) later))
    ∙ take_at (before ++ next ∷ []) later n long in
    sym (take-append-drop n (lexemes_of whole)) ∙ ap (λ l. l ++ drop n (lexemes_of whole)) front
    ∙ append_assoc before (next ∷ []) (drop n (lexemes_of whole))

none_goes : (keeps : Code → Type 0) (ts : List Token) (why : Why) (left : ℕ) (s : Ends ts why left) → IsWhole ts →
    ((p : Code) (list : List Declaration) → p.methods ≡ methods_of list → keeps p → Counts why (λ l. KeepsAll l list))
    → Goes keeps ts (length s.before + 1) → ⊥
none_goes keeps ts why left s w counts g =
    let x = next_of ts why left s w in
    let l = lexemes_derive g.program g.whole g.derives in
    let d : Tokens = drop (length s.before + 1) (lexemes_of g.whole) in
    let e : lexemes_of g.whole ≡ s.before ++ x.0 ∷ d = same_lexemes ts g.whole (length s.before + 1) s.before x.1 x.0
    refl (s.whole ∙ ap (λ r. s.before ++ r) x.2) g.same in
    s.stuck (g.derives.list, tt) (lexemes_of g.whole) [] (x.0 ∷ d) l (append-nil (lexemes_of g.whole) ∙ e)
    (sym (ap head x.2)) tt (counts g.program g.derives.list g.derives.methods g.kept)

-- the lexemes before the place
before_is : (ts : List Token) (why : Why) (left : ℕ) (s : Ends ts why left) → take (length s.before) (lexemes_of ts)
    ≡ s.before
before_is ts why left s = ap (take (length s.before)) s.whole ∙ take_at s.before s.rest (length s.before) refl

-- a program that keeps to the limits which are not decided early goes on up to the place
goes_nearly : (ts : List Token) (why : Why) (left : ℕ) (s : Ends ts why left)
    → Goes IsNearlyInLimits ts (length s.before)
goes_nearly ts why left s =
    goes_on IsNearlyInLimits ts (length s.before) s.before s.more s.tree.0 (omega (arith, lengths ts why left s))
    (before_is ts why left s) s.goes s.known (λ names. s.within)

-- the lexemes that begin a program within the limits, and those behind them
start_is : (ts : List Token) (why : Why) (left : ℕ) (s : Ends ts why left)
    → take (length s.lead.start) (lexemes_of ts) ≡ s.lead.start
start_is ts why left s =
    let e : lexemes_of ts ≡ s.lead.start ++ (s.lead.ahead ++ s.rest) = s.whole ∙ ap (λ l. l ++ s.rest) s.lead.parts
    ∙ append_assoc s.lead.start s.lead.ahead s.rest in
    ap (take (length s.lead.start)) e ∙ take_at s.lead.start (s.lead.ahead ++ s.rest) (length s.lead.start) refl

ahead_is : (ts : List Token) (why : Why) (left : ℕ) (s : Ends ts why left)
    → drop (length s.lead.start) (take (length s.before) (lexemes_of ts)) ≡ s.lead.ahead
ahead_is ts why left s = ap (drop (length s.lead.start)) (before_is ts why left s ∙ s.lead.parts)
    ∙ drop-append_seam s.lead.start s.lead.ahead

start_within : (ts : List Token) (why : Why) (left : ℕ) (s : Ends ts why left) → length s.lead.start ≤ length s.before
start_within ts why left s = omega (arith, ap length s.lead.parts, length-append s.lead.start s.lead.ahead)

-- a program within the limits goes on, and what is behind leads up to the place
goes_before : (ts : List Token) (why : Why) (left : ℕ) (s : Ends ts why left) → GoesUpTo ts (length s.before)
goes_before ts why left s =
    let m = start_within ts why left s in
    record {
      start = length s.lead.start;
      before = m;
      within = goes_on Within ts (length s.lead.start) s.lead.start s.lead.more s.lead.tree.0
          (omega (arith, m, lengths ts why left s)) (start_is ts why left s) s.lead.goes s.lead.known
          (λ names. s.lead.within);
      leads = subst IsHead (sym (ahead_is ts why left s)) s.lead.leads;
      nearly = goes_nearly ts why left s;
    }

-- a program that keeps to the limits named before this one goes on with the next token
goes_beyond : (ts : List Token) (why : Why) (left : ℕ) (s : Ends ts why left) (l : Limit)
    → Larger l whole_program KeepsAllWhole s.before s.rest → Goes (KeepsBefore l) ts (length s.before + 1)
goes_beyond ts why left s l b =
    let n : ℕ = length s.before + 1 in
    let long : length (s.before ++ b.next ∷ []) ≡ n = length-append s.before (b.next ∷ []) in
    let e : lexemes_of ts ≡ (s.before ++ b.next ∷ []) ++ b.later = s.whole ∙ ap (λ r. s.before ++ r) b.rest_is
    ∙ sym (append_assoc s.before (b.next ∷ []) b.later) in
    let P : Tokens → Type 0 = whole_program b.tree in
    goes_on (KeepsBefore l) ts n (s.before ++ b.next ∷ []) b.after b.tree.0
    (omega (arith, lengths ts why left s, ap length b.rest_is))
    (ap (take n) e ∙ take_at (s.before ++ b.next ∷ []) b.later n long)
    (subst P (sym (append_assoc s.before (b.next ∷ []) b.after)) b.goes_on) b.known (λ names m k. b.others m k)

-- the limit can refuse the next token
can_pass : (ts : List Token) (why : Why) (left : ℕ) (s : Ends ts why left) (l : Limit)
    → Larger l whole_program KeepsAllWhole s.before s.rest → CanPassAt l (lexemes_of ts) (length s.before)
can_pass ts why left s l b =
    let e : lexemes_of ts ≡ s.before ++ b.next ∷ b.later = s.whole ∙ ap (λ r. s.before ++ r) b.rest_is in
    let long : length (lexemes_of ts) ≡ length s.before + length s.rest = as_long ts ∙ lengths ts why left s in
    let is : b.next ≡ get_or (lexemes_of ts) (length s.before) b.next =
    sym (ap (λ r. get_or r (length s.before) b.next) e ∙ get_or-append_seam s.before b.next b.later b.next) in (
      b.next,
      slice_get_read (lexemes_of ts) (length (lexemes_of ts)) (length s.before) b.next refl
          (omega (arith, long, ap length b.rest_is)) is,
      b.passes,
    )

-- ---- which rule is broken

unexpected : (ts : List Token) (left k : ℕ) (r : Refused ts Unexpected left) → IsWhole ts
    → k + r.back ≡ length r.stopped.before → IsUnexpected ts k
unexpected ts left k r w e =
    let s = r.stopped in
    let here : k ≡ length s.before = omega (arith, e, r.placed) in
    let P : ℕ → Type 0 = IsUnexpected ts in
    subst P (sym here) (goes_before ts Unexpected r.stop s, none_goes Any ts Unexpected r.stop s w (λ p list m kept. tt))

over : (l : Limit) (ts : List Token) (left k : ℕ) (r : Refused ts (Over l) left) → IsWhole ts
    → k + r.back ≡ length r.stopped.before → IsOverAt l ts k
over l ts left k r w e =
    let s = r.stopped in
    let keeps : (p : Code) (list : List Declaration) → p.methods ≡ methods_of list → KeepsTo l p → KeepsAll l list =
    λ p list m kept. let A : List Definition → Type 0 = All (KeepsMethod l) in subst A m kept in
    let none = none_goes (KeepsTo l) ts (Over l) r.stop s w keeps in
    let passes : Passes l ts (length s.before) = (goes_before ts (Over l) r.stop s, can_pass ts (Over l) r.stop s l s.beyond, goes_beyond ts (Over l) r.stop s l s.beyond, none) in
    let Q : Tokens → Type 0 = λ b. IsPlaced l b r.back in
    let P : ℕ → Type 0 = λ n. Passes l ts n × IsPlaced l (take n (lexemes_of ts)) r.back in
    let there : P (k + r.back) = subst P (sym e) (passes, subst Q (sym (before_is ts (Over l) r.stop s)) r.placed) in
    (r.back, there.0, there.1)

breaks : (why : Why) (ts : List Token) (left k : ℕ) (r : Refused ts why left) → IsWhole ts
    → k + r.back ≡ length r.stopped.before → BreaksAt (rule_of why) ts k
breaks Unexpected ts left k r w e = unexpected ts left k r w e
breaks (Over Statements) ts left k r w e = over Statements ts left k r w e
breaks (Over Levels) ts left k r w e = inr (over Levels ts left k r w e)
breaks (Over Depth) ts left k r w e = inl (over Depth ts left k r w e)
breaks (Over Params) ts left k r w e = over Params ts left k r w e

left_some : (ts : List Token) (why : Why) (left : ℕ) → Refused ts why left → IsWhole ts → 0 < left
left_some ts why left r w = omega (arith, r.left_is, r.stopped.left_is, ap length (next_of ts why r.stop r.stopped w).2)

pub left_index : (why : Why) (ts : List Token) (left : ℕ) → Refused ts why left → IsWhole ts
    → length ts - left < length ts
left_index why ts left r w = omega (arith, left_some ts why left r w, left_within ts why left r)

-- the token from which on this many are left is refused
pub refused_at : (why : Why) (ts : List Token) (left : ℕ) (t : Token) (rule : Rule) → Refused ts why left → IsWhole ts
    → t ≡ get_or ts (length ts - left) t → rule ≡ rule_of why → IsRefused ts rule t.at
refused_at why ts left t rule r w is same =
    let s = r.stopped in
    let k : ℕ = length ts - left in
    let e : k + r.back ≡ length s.before =
    omega (arith, r.left_is, s.left_is, lengths ts why r.stop s, back_fits why s.before r.back r.placed) in
    let P : Rule → Type 0 = λ rule. BreaksAt rule ts k in (
      k,
      t,
      slice_get_read ts (length ts) k t refl (left_index why ts left r w) is,
      refl,
      subst P (sym same)
          (breaks why ts left k r w e),
    )
