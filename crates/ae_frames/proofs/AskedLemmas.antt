-- Facts on what the arguments of a call come to, one after another.
use Rattle.std.proofs.Common.{◌≡◌, ◌∙◌, ℕ, zero, suc, ◌<◌, ◌≤◌, arith, ap, sym, subst, refl, Bool, true, false, List, []}
use Rattle.std.proofs.Common.{◌∷◌, ◌++◌, length, drop, map, append-nil, slice_get, option_map}
use Rattle.std.proofs.Common.{Option, None, Some}
use Rattle.std.proofs.lemmas.List.{map-append}
use Rattle.std.specs.List.{cons_option}
use Rattle.std.specs.Borrow.{Bor}
use Rattle.std.specs.Prelude.{MatchOption}
use Rattle.std.specs.List.{HoldsAt}
use Rattle.std.proofs.lemmas.Option.{slice_get-get_or, slice_get-map, slice_get_past}
use Rattle.ae_tree.specs.declared.tree.Path.{Path}
use Rattle.ae_tree.specs.Plain.{Code, Expression, Read}
use Rattle.ae_rules.specs.Verdict.{given}
use Rattle.ae_semantics.specs.Places as places
use Rattle.ae_semantics.specs.Values.{Val, Null}
use Rattle.ae_semantics.specs.Places.{Outcome, Fine, ◌>>=◌, State, Address, Base, InLocal, walk_to}
use Rattle.ae_semantics.specs.Calls.{Argument, Taker, argument, each_argument, given_away, value_comes_back}
use Rattle.ae_reads.specs.declared.stop.Stop.{Stop}
use Rattle.ae_values.specs.Inside.{value_inside}
use Rattle.ae_reads.specs.Answers.{FaultsAs}
use Rattle.ae_reads.specs.declared.found.Found.{Found}
use Rattle.ae_reads.specs.Views.{base_of, found_at}
use Rattle.ae_stores.specs.Stand.{standing_or_null, whole_at}
use Rattle.ae_frames.specs.declared.given.Asked.{Asked}
use Rattle.ae_frames.specs.declared.given.Parameter.{Parameter}
use Rattle.ae_frames.specs.Givens.{taker_of, takers_of}
use Rattle.ae_frames.specs.Asking.{asked_in, is_spared, taker_seen, AreSpared}
use Rattle.ae_frames.proofs.from_reads.WalkLemmas.{faults_go_on, faults_equal}
use Rattle.ae_frames.proofs.from_stores.StandLemmas.{walk_stands}
use Rattle.ae_frames.proofs.ArgumentLemmas.{GoesOnWith, goes_on_after}
use Rattle.ae_frames.proofs.GoneLemmas.{from_there_on, nothing_further}

-- what a parameter, if there is one, keeps of what it is given
abbrev pub comes_of : Option Taker → Bool
comes_of o = given o false (λ t. value_comes_back t.1)

abbrev pub gone_of : Option Taker → Option Expression → Option ℕ
gone_of o e = given o None (λ t. given e None (λ x. given_away (t, x)))

-- nothing is in an empty list
abbrev none_of : (A : Type 0) → List A
none_of A = []

in_nothing : {A : Type 0} (n : ℕ) → slice_get (none_of A) n ≡ None
in_nothing zero = refl
in_nothing (suc n) = refl

-- one more is spared
spared_more : (ts : List Taker) (es : List Expression) (xs : List Asked) (x : Asked) → AreSpared ts es xs
    → is_spared (comes_of (slice_get ts (length xs))) (gone_of (slice_get ts (length xs)) (slice_get es (length xs))) x ≡ true
    → AreSpared ts es (xs ++ x ∷ [])
spared_more [] es [] x h is = (is, tt)
spared_more (t ∷ ts) [] [] x h is = (is, tt)
spared_more (t ∷ ts) (e ∷ es) [] x h is = (is, tt)
spared_more [] es (y ∷ ys) x h is = (
  h.0,
  spared_more [] [] ys x h.1
      (ap (λ (o : Option Taker). is_spared (comes_of o) (gone_of o (slice_get [] (length ys))) x) (in_nothing (length ys)) ∙ is),
)
spared_more (t ∷ ts) [] (y ∷ ys) x h is = (
  h.0,
  spared_more ts [] ys x h.1
      (ap (λ (o : Option Expression). is_spared (comes_of (slice_get ts (length ys))) (gone_of (slice_get ts (length ys)) o) x)
      (in_nothing (length ys)) ∙ is),
)
spared_more (t ∷ ts) (e ∷ es) (y ∷ ys) x h is = (h.0, spared_more ts es ys x h.1 is)

-- the arguments so far: the others are still to be asked for
pub record AreAskedSoFar (all : Outcome (List Argument)) (p : Code) (s : State) (ts : List Taker) (es : List Expression)
    (xs : List Asked) : Type 0 where
  pub goes_on : GoesOnWith all p s (map (asked_in s) xs) (drop (length xs) es)
  pub spared : AreSpared ts es xs

-- where one stands, it goes before the others
one_first : (es : List Expression) (n : ℕ) (e : Expression) → slice_get es n ≡ Some e → drop n es ≡ e ∷ drop (suc n) es
one_first es n e h = from_there_on es n ∙ ap (λ (o : Option Expression). cons_option o (drop (suc n) es)) h

one_longer : {A : Type 0} (xs : List A) (x : A) → length (xs ++ x ∷ []) ≡ suc (length xs)
one_longer [] x = refl
one_longer (y ∷ ys) x = ap suc (one_longer ys x)

pub none_asked : (p : Code) (s : State) (ts : List Taker) (es : List Expression)
    → AreAskedSoFar (each_argument p s es) p s ts es []
none_asked p s ts es = record { goes_on = as_it_is (each_argument p s es); spared = tt }
  where
    as_it_is : (o : Outcome (List Argument)) → o ≡ (o >>= λ ys. Fine ([] ++ ys))
    as_it_is (Fine ys) = refl
    as_it_is (places.Traps code) = refl
    as_it_is places.Lacks = refl

pub one_more_asked : (all : Outcome (List Argument)) (p : Code) (s : State) (ts : List Taker) (es : List Expression)
    (xs ys : List Asked) (x : Asked) (e : Expression) → AreAskedSoFar all p s ts es xs → slice_get es (length xs) ≡ Some e
    → argument p s e ≡ Fine (asked_in s x)
    → is_spared (comes_of (slice_get ts (length xs))) (given (slice_get ts (length xs)) None (λ t. given_away (t, e))) x ≡ true
    → ys ≡ xs ++ x ∷ [] → AreAskedSoFar all p s ts es ys
one_more_asked all p s ts es xs ys x e h at is spared more =
    subst (λ (zs : List Asked). AreAskedSoFar all p s ts es zs) (sym more) (record {
      goes_on = subst (λ zs. GoesOnWith all p s zs (drop (length (xs ++ x ∷ [])) es)) (sym (map-append (asked_in s) xs (x ∷ [])))
          (subst (λ n. GoesOnWith all p s (map (asked_in s) xs ++ asked_in s x ∷ []) (drop n es)) (sym (one_longer xs x))
          (goes_on_after all p s (map (asked_in s) xs) e (drop (suc (length xs)) es) (asked_in s x)
          (subst (λ zs. GoesOnWith all p s (map (asked_in s) xs) zs) (one_first es (length xs) e at) h.goes_on) is));
      spared = spared_more ts es xs x h.spared
          (ap (λ (o : Option Expression). is_spared (comes_of (slice_get ts (length xs)))
          (gone_of (slice_get ts (length xs)) o) x) at ∙ spared);
    })

-- where one fails all do
pub asking_fails : (all : Outcome (List Argument)) (p : Code) (s : State) (ts : List Taker) (es : List Expression)
    (xs : List Asked) (e : Expression) (stop : Stop) → AreAskedSoFar all p s ts es xs → slice_get es (length xs) ≡ Some e
    → FaultsAs (argument p s e) stop → FaultsAs all stop
asking_fails all p s ts es xs e stop h at fails =
    let rest : List Expression = drop (suc (length xs)) es in
    let o : Outcome Argument = argument p s e in
    faults_equal all ((o >>= λ x. each_argument p s rest >>= λ ys. Fine (x ∷ ys)) >>= λ ys. Fine (map (asked_in s) xs ++ ys))
    stop
    (subst (λ zs. GoesOnWith all p s (map (asked_in s) xs) zs) (one_first es (length xs) e at) h.goes_on)
    (faults_go_on (o >>= λ x. each_argument p s rest >>= λ ys. Fine (x ∷ ys)) (λ ys. Fine (map (asked_in s) xs ++ ys)) stop
    (faults_go_on o (λ x. each_argument p s rest >>= λ ys. Fine (x ∷ ys)) stop fails))

-- where none is left all are asked for
pub all_are_asked : (all : Outcome (List Argument)) (p : Code) (s : State) (ts : List Taker) (es : List Expression)
    (xs : List Asked) → AreAskedSoFar all p s ts es xs → slice_get es (length xs) ≡ None
    → all ≡ Fine (map (asked_in s) xs)
all_are_asked all p s ts es xs h none =
    subst (λ zs. GoesOnWith all p s (map (asked_in s) xs) zs)
    (from_there_on es (length xs)
    ∙ ap (λ (o : Option Expression). cons_option o (drop (suc (length xs)) es)) none
    ∙ nothing_further es (length xs) none) h.goes_on
    ∙ ap Fine (append-nil (map (asked_in s) xs))

-- each time fewer are left
pub fewer_left : (es : List Expression) (xs ys : List Asked) (x : Asked) (e : Expression)
    → slice_get es (length xs) ≡ Some e → ys ≡ xs ++ x ∷ [] → length (drop (length ys) es) < length (drop (length xs) es)
fewer_left es xs ys x e at more =
    subst (λ (n : ℕ). length (drop n es) < length (drop (length xs) es)) (sym (ap length more ∙ one_longer xs x))
    (subst (λ (zs : List Expression). length (drop (suc (length xs)) es) < length zs) (sym (one_first es (length xs) e at))
    (omega arith))

-- a parameter that is looked at is the one with its number
pub taker_there : (o : Option (Bor Parameter)) (ts : List Parameter) (n : ℕ)
    → MatchOption o (length ts ≤ n) (λ x. (n < length ts) × HoldsAt (λ y. x.now ≡ y) ts n)
    → option_map taker_seen o ≡ slice_get (takers_of ts) n
taker_there None ts n h = sym (slice_get-map taker_of ts n ∙ ap (option_map taker_of) (slice_get_past ts n h))
taker_there (Some t) ts n h = sym (slice_get-map taker_of ts n ∙ ap (option_map taker_of)
    (slice_get-get_or ts n t.now h.0 ∙ ap (λ (x : Parameter). Some x) (sym (h.1 t.now))))

-- the value to which a path leads in a local stands there
pub path_stands : (p : Code) (s : State) (path : Path) (found : Found) (fields : List ℕ) (name : ℕ)
    → walk_to p s path ≡ Fine (found_at fields found) → base_of found.base ≡ InLocal name
    → argument p s (Read path)
    ≡ Fine (record { value = standing_or_null s name fields; from = Some (record { base = InLocal name; fields = fields }) })
path_stands p s path found fields name walked is =
    let stands = walk_stands p s path (found_at fields found) walked in
    ap (λ (o : Outcome places.PlaceFound). o >>= λ x. Fine (made x.value x.at)) walked
    ∙ ap (λ (b : Base). Fine (made (found_at fields found).value (record { base = b; fields = fields }))) is
    ∙ ap (λ (v : Val). Fine (made v (record { base = InLocal name; fields = fields })))
    (sym (ap (λ (b : Base). given (given (whole_at s b) none (value_inside fields)) Null (λ w. w)) (sym is)
    ∙ ap (λ (o : Option Val). given (given o none (value_inside fields)) Null (λ w. w)) stands.1
    ∙ ap (λ (o : Option Val). given o Null (λ w. w)) stands.2))
  where
    none : Option Val
    none = None

    made : Val → Address → Argument
    made v at = record { value = v; from = Some at }
