-- Tokens are refused once at most, and not where they stand for a program within the limits.
use Rattle.std.proofs.Common.{◌≡◌, ℕ, zero, suc, ◌+◌, ◌-◌, ◌<◌, ◌≤◌, ◌⊎◌, inl, inr, List, [], ◌∷◌, take, drop}
use Rattle.std.proofs.Common.{slice_get, Option, Some, None, refl, sym, ap, ◌∙◌, subst, arith}
use Rattle.std.proofs.lemmas.Bool.{cases_lt}
use Rattle.ae_text.specs.declared.refusal.Rule.{Rule}
use Rattle.ae_text.specs.declared.refusal.Rule.TheVariants as rule
use Rattle.ae_text.specs.declared.token.Token.{Token}
use Rattle.ae_text.specs.declared.token.Keyword.{Keyword}
use Rattle.ae_text.specs.declared.token.Keyword.TheVariants as word
use Rattle.ae_text.specs.declared.token.Sign.TheVariants as sign
use Rattle.ae_tree.specs.declared.lexeme.Lexeme.{Lexeme}
use Rattle.ae_tree.specs.declared.lexeme.Lexical.{Lexical}
use Rattle.ae_tree.specs.declared.lexeme.Lexical.TheVariants as tok
use Rattle.ae_tree.specs.declared.limits.Limit.{Limit}
use Rattle.ae_tree.specs.declared.limits.Limit.TheVariants as limit
use Rattle.ae_tree.specs.Plain.{Code}
use Rattle.ae_tree.specs.Grammar.{Tokens, Derives}
use Rattle.ae_tree.specs.Limits.{KeepsTo, rank, IsNearlyInLimits, Within}
use Rattle.ae_tree.specs.Refused.{Goes, Any, GoesUpTo, IsHead, OpensBlock, IsTypeWord, NoOpen, CanPassAt, lexemes}
use Rattle.ae_tree.specs.Refused.{IsUnexpected, Passes, IsPlaced, IsOverAt, BreaksAt}
use Rattle.ae_parser.specs.Laws.{IsOneRefusal, NoProgramIsRefused}
use Rattle.ae_parser.proofs.OnePlace.{one_place}

-- ---- parts of lists

get_drop : {A : Type 0} (m : ℕ) (xs : List A) (i : ℕ) → slice_get (drop m xs) i ≡ slice_get xs (m + i)
get_drop zero xs i = let n : i ≡ 0 + i = omega arith in ap (slice_get xs) n
get_drop (suc m) [] i = refl
get_drop (suc m) (x ∷ xs) i = let n : suc (m + i) ≡ suc m + i = omega arith in get_drop m xs i
    ∙ ap (slice_get (x ∷ xs)) n

get_take : {A : Type 0} (n : ℕ) (xs : List A) (i : ℕ) → i < n → slice_get (take n xs) i ≡ slice_get xs i
get_take zero xs i l = absurd (omega (arith, l))
get_take (suc n) [] i l = refl
get_take (suc n) (x ∷ xs) zero l = refl
get_take (suc n) (x ∷ xs) (suc i) l = get_take n xs i (omega (arith, l))

-- what stands at a place between two others
get_between : {A : Type 0} (xs : List A) (start d e : ℕ) → start ≤ d → d < e
    → slice_get (drop start (take e xs)) (d - start) ≡ slice_get xs d
get_between xs start d e l m =
    let n : start + (d - start) ≡ d = omega (arith, l) in
    get_drop start (take e xs) (d - start) ∙ ap (slice_get (take e xs)) n ∙ get_take e xs d m

take_less : {A : Type 0} (m n : ℕ) (xs : List A) → m ≤ n → take m (take n xs) ≡ take m xs
take_less zero n xs l = refl
take_less (suc m) zero xs l = absurd (omega (arith, l))
take_less (suc m) (suc n) [] l = refl
take_less (suc m) (suc n) (x ∷ xs) l = ap (λ ys. x ∷ ys) (take_less m n xs (omega (arith, l)))

-- ---- what goes on

goes_down : (keeps : Code → Type 0) (ts : List Token) (m n : ℕ) → m ≤ n → Goes keeps ts n → Goes keeps ts m
goes_down keeps ts m n l g = record {
  program = g.program;
  whole = g.whole;
  derives = g.derives;
  same = sym (take_less m n g.whole l) ∙ ap (take m) g.same ∙ take_less m n ts l;
  kept = g.kept;
}

goes_as : (keeps keeps' : Code → Type 0) (ts : List Token) (n : ℕ) → ((p : Code) → keeps p → keeps' p)
    → Goes keeps ts n → Goes keeps' ts n
goes_as keeps keeps' ts n f g =
    record { program = g.program; whole = g.whole; derives = g.derives; same = g.same; kept = f g.program g.kept }

-- ---- what only leads up to a token

opener_no_type : (k : Lexical) → OpensBlock k → IsTypeWord k → ⊥
opener_no_type (tok.Word w) o t = by_word w o t
  where
    by_word : (w : Keyword) → OpensBlock (tok.Word w) → IsTypeWord (tok.Word w) → ⊥
    by_word word.If o t = t
    by_word word.While o t = t
    by_word word.Split o t = t
    by_word word.Atomic o t = t
    by_word _ o t = o
opener_no_type _ o t = o

opener_no_brace : (k : Lexical) → OpensBlock k → k ≡ tok.Sign sign.OpenBrace → ⊥
opener_no_brace k o e = let P : Lexical → Type 0 = OpensBlock in subst P e o

comma_no_type : (k : Lexical) → k ≡ tok.Sign sign.Comma → IsTypeWord k → ⊥
comma_no_type k e t = let P : Lexical → Type 0 = IsTypeWord in subst P e t

-- neither a brace nor a word of a type
abbrev IsPlain : Lexical → Type 0
IsPlain k = (k ≡ tok.Sign sign.OpenBrace → ⊥) × (IsTypeWord k → ⊥)

no_open_at : (us : Tokens) (i : ℕ) (t : Lexeme) → NoOpen us → slice_get us i ≡ Some t → IsPlain t.kind
no_open_at [] i t n e = absurd cc
no_open_at (x ∷ us) zero t n e =
    let s : x ≡ t = cc in
    let P : Lexeme → Type 0 = λ y. IsPlain y.kind in
    subst P s (n.0, n.1)
no_open_at (x ∷ us) (suc i) t n e = no_open_at us i t n.2 e

head_at : (us : Tokens) (i : ℕ) (t : Lexeme) → IsHead us → slice_get us i ≡ Some t → IsPlain t.kind
head_at [] i t h e = absurd cc
head_at (x ∷ us) zero t (inl h) e =
    let s : x ≡ t = cc in
    let P : Lexeme → Type 0 = λ y. IsPlain y.kind in
    subst P s ((λ q. let n : tok.Sign sign.Comma ≡ tok.Sign sign.OpenBrace = sym h.0 ∙ q in cc), comma_no_type x.kind h.0)
head_at (x ∷ us) zero t (inr h) e =
    let s : x ≡ t = cc in
    let P : Lexeme → Type 0 = λ y. IsPlain y.kind in
    subst P s (opener_no_brace x.kind h.0, opener_no_type x.kind h.0)
head_at (x ∷ us) (suc i) t (inl h) e =
    let P : Tokens → Type 0 = λ l. slice_get l i ≡ Some t in
    let none : None ≡ Some t = subst P h.1 e in
    absurd cc
head_at (x ∷ us) (suc i) t (inr h) e = no_open_at us i t h.1 e

-- ---- where the reading stops

-- no program goes on, or none within a limit
abbrev StopsAt : Option Limit → List Token → ℕ → Type 0
StopsAt None ts d = IsUnexpected ts d
StopsAt (Some l) ts d = Passes l ts d

-- a limit that a token passes is passed by all that goes on behind it
within_past : (l : Limit) (ts : List Token) (d e : ℕ) → d < e → CanPassAt l (lexemes ts) d → GoesUpTo ts e
    → Goes (KeepsTo l) ts (d + 1)
within_past limit.Statements ts d e l c g = goes_as IsNearlyInLimits (KeepsTo limit.Statements) ts (d + 1)
    (λ p k. k limit.Statements) (goes_down IsNearlyInLimits ts (d + 1) e (omega (arith, l)) g.nearly)
within_past limit.Depth ts d e l c g = goes_as IsNearlyInLimits (KeepsTo limit.Depth) ts (d + 1)
    (λ p k. k limit.Depth) (goes_down IsNearlyInLimits ts (d + 1) e (omega (arith, l)) g.nearly)
within_past limit.Levels ts d e l c g = by_start (cases_lt d g.start)
  where
    by_start : (d < g.start) ⊎ (g.start ≤ d) → Goes (KeepsTo limit.Levels) ts (d + 1)
    by_start (inl m) = goes_as Within (KeepsTo limit.Levels) ts (d + 1) (λ p k. k limit.Levels)
        (goes_down Within ts (d + 1) g.start (omega (arith, m)) g.within)
    by_start (inr m) = absurd ((head_at (drop g.start (take e (lexemes ts))) (d - g.start) c.0 g.leads
        (get_between (lexemes ts) g.start d e m l ∙ c.1)).0 c.2)
within_past limit.Params ts d e l c g = by_start (cases_lt d g.start)
  where
    by_start : (d < g.start) ⊎ (g.start ≤ d) → Goes (KeepsTo limit.Params) ts (d + 1)
    by_start (inl m) = goes_as Within (KeepsTo limit.Params) ts (d + 1) (λ p k. k limit.Params)
        (goes_down Within ts (d + 1) g.start (omega (arith, m)) g.within)
    by_start (inr m) = absurd ((head_at (drop g.start (take e (lexemes ts))) (d - g.start) c.0 g.leads
        (get_between (lexemes ts) g.start d e m l ∙ c.1)).1 c.2)

-- nothing goes on behind where the reading stops
none_past : (o : Option Limit) (ts : List Token) (d e : ℕ) → d < e → StopsAt o ts d → GoesUpTo ts e → ⊥
none_past None ts d e l s g = s.1
    (goes_as IsNearlyInLimits Any ts (d + 1) (λ p k. tt)
    (goes_down IsNearlyInLimits ts (d + 1) e (omega (arith, l)) g.nearly))
none_past (Some m) ts d e l s g = s.3 (within_past m ts d e l s.1 g)

goes_to : (o : Option Limit) (ts : List Token) (d : ℕ) → StopsAt o ts d → GoesUpTo ts d
goes_to None ts d s = s.0
goes_to (Some l) ts d s = s.0

same_place : (o p : Option Limit) (ts : List Token) (d e : ℕ) → StopsAt o ts d → StopsAt p ts e → d ≡ e
same_place o p ts d e s t = by_first (cases_lt d e) (cases_lt e d)
  where
    by_first : (d < e) ⊎ (e ≤ d) → (e < d) ⊎ (d ≤ e) → d ≡ e
    by_first (inl l) m = absurd (none_past o ts d e l s (goes_to p ts e t))
    by_first (inr l) (inl m) = absurd (none_past p ts e d m t (goes_to o ts d s))
    by_first (inr l) (inr m) = omega (arith, l, m)

-- a limit by its rank
abbrev ranked : ℕ → Limit
ranked zero = limit.Statements
ranked (suc zero) = limit.Depth
ranked (suc (suc zero)) = limit.Params
ranked (suc (suc (suc n))) = limit.Levels

ranked_rank : (l : Limit) → ranked (rank l) ≡ l
ranked_rank limit.Statements = refl
ranked_rank limit.Depth = refl
ranked_rank limit.Params = refl
ranked_rank limit.Levels = refl

no_lower : (l m : Limit) (ts : List Token) (d : ℕ) → rank l < rank m → Passes l ts d → Passes m ts d → ⊥
no_lower l m ts d k s t = s.3 (goes_as _ (KeepsTo l) ts (d + 1) (λ p kept. kept l k) t.2)

same_limit : (o p : Option Limit) (ts : List Token) (d : ℕ) → StopsAt o ts d → StopsAt p ts d → o ≡ p
same_limit None None ts d s t = refl
same_limit None (Some m) ts d s t = absurd (s.1 (goes_as _ Any ts (d + 1) (λ p k. tt) t.2))
same_limit (Some l) None ts d s t = absurd (t.1 (goes_as _ Any ts (d + 1) (λ p k. tt) s.2))
same_limit (Some l) (Some m) ts d s t = by_rank (cases_lt (rank l) (rank m)) (cases_lt (rank m) (rank l))
  where
    by_rank : (rank l < rank m) ⊎ (rank m ≤ rank l) → (rank m < rank l) ⊎ (rank l ≤ rank m) → Some l ≡ Some m
    by_rank (inl k) n = absurd (no_lower l m ts d k s t)
    by_rank (inr k) (inl n) = absurd (no_lower m l ts d n t s)
    by_rank (inr k) (inr n) = let e : rank l ≡ rank m = omega (arith, k, n) in ap Some
        (sym (ranked_rank l) ∙ ap ranked e ∙ ranked_rank m)

-- ---- which token is refused

abbrev named : Option Limit → Rule
named None = rule.Unexpected
named (Some limit.Statements) = rule.BlockTooLong
named (Some limit.Levels) = rule.TooDeep
named (Some limit.Depth) = rule.TooDeep
named (Some limit.Params) = rule.TooManyParams

-- how many tokens before the place where the reading stops the refused one stands
abbrev Back : Option Limit → Tokens → ℕ → Type 0
Back None before back = back ≡ 0
Back (Some l) before back = IsPlaced l before back

one_back : (o : Option Limit) (before : Tokens) (j k : ℕ) → Back o before j → Back o before k → j ≡ k
one_back None before j k a b = a ∙ sym b
one_back (Some limit.Statements) before j k a b = a ∙ sym b
one_back (Some limit.Levels) before j k a b = a ∙ sym b
one_back (Some limit.Depth) before j k a b = one_place before j k a b
one_back (Some limit.Params) before j k a b = a ∙ sym b

record Stopped (ts : List Token) (r : Rule) (k : ℕ) : Type 0 where
  why : Option Limit
  back : ℕ
  stops : StopsAt why ts (k + back)
  placed : Back why (take (k + back) (lexemes ts)) back
  rule_is : r ≡ named why

stopped_over : (l : Limit) (ts : List Token) (r : Rule) (k : ℕ) → r ≡ named (Some l) → IsOverAt l ts k → Stopped ts r k
stopped_over l ts r k e o = record { why = Some l; back = o.0; stops = o.1; placed = o.2; rule_is = e }

stopped : (ts : List Token) (r : Rule) (k : ℕ) → BreaksAt r ts k → Stopped ts r k
stopped ts rule.Unexpected k b =
    let e : k ≡ k + 0 = omega arith in
    let P : ℕ → Type 0 = IsUnexpected ts in
    record { why = None; back = 0; stops = subst P e b; placed = refl; rule_is = refl }
stopped ts rule.BlockTooLong k b = stopped_over limit.Statements ts rule.BlockTooLong k refl b
stopped ts rule.TooDeep k (inl b) = stopped_over limit.Depth ts rule.TooDeep k refl b
stopped ts rule.TooDeep k (inr b) = stopped_over limit.Levels ts rule.TooDeep k refl b
stopped ts rule.TooManyParams k b = stopped_over limit.Params ts rule.TooManyParams k refl b
stopped ts _ k b = absurd b

same_token : (ts : List Token) (r s : Rule) (j k : ℕ) → Stopped ts r j → Stopped ts s k → (r ≡ s) × (j ≡ k)
same_token ts r s j k a b =
    let d : j + a.back ≡ k + b.back = same_place a.why b.why ts (j + a.back) (k + b.back) a.stops b.stops in
    let P : ℕ → Type 0 = λ n. StopsAt b.why ts n in
    let o : a.why ≡ b.why = same_limit a.why b.why ts (j + a.back) a.stops (subst P (sym d) b.stops) in
    let Q : ℕ → Type 0 = λ n. Back b.why (take n (lexemes ts)) b.back in
    let there : Back b.why (take (j + a.back) (lexemes ts)) b.back = subst Q (sym d) b.placed in
    let R : Option Limit → Type 0 = λ w. Back w (take (j + a.back) (lexemes ts)) b.back in
    let back : a.back ≡ b.back = one_back a.why (take (j + a.back) (lexemes ts)) a.back b.back a.placed
    (subst R (sym o) there) in
    (a.rule_is ∙ ap named o ∙ sym b.rule_is, omega (arith, d, back))

-- ---- the laws

pub refusals_are_unique : IsOneRefusal
refusals_are_unique ts r s at place a b =
    let t = same_token ts r s a.0 b.0 (stopped ts r a.0 a.4) (stopped ts s b.0 b.4) in
    let same : Some a.1 ≡ Some b.1 = sym a.2 ∙ ap (slice_get ts) t.1 ∙ b.2 in
    let token : a.1 ≡ b.1 = cc in
    (t.0, sym a.3 ∙ ap (λ (x : Token). x.at) token ∙ b.3)

goes_all : (keeps : Code → Type 0) (ts : List Token) (p : Code) (n : ℕ) → Derives ts p → keeps p → Goes keeps ts n
goes_all keeps ts p n d k = record { program = p; whole = ts; derives = d; same = refl; kept = k }

not_stopped : (o : Option Limit) (ts : List Token) (p : Code) (d : ℕ) → Derives ts p → Within p → StopsAt o ts d → ⊥
not_stopped None ts p d is w s = s.1 (goes_all Any ts p (d + 1) is tt)
not_stopped (Some l) ts p d is w s = s.3 (goes_all (KeepsTo l) ts p (d + 1) is (w l))

pub programs_are_not_refused : NoProgramIsRefused
programs_are_not_refused ts p r at d w a = let s = stopped ts r a.0 a.4 in not_stopped s.why ts p
    (a.0 + s.back) d w s.stops
