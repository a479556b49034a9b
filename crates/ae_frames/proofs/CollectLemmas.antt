-- Facts on arguments that are collected, and on the locals that are left.
use Rattle.std.proofs.Common.{◌≡◌, refl, sym, ap, ◌∙◌, subst, ℕ, nat_eq, Bool, true, false}
use Rattle.std.proofs.Common.{not, ◌||◌, if◌then◌else◌, List, [], ◌∷◌, ◌++◌, map, append-nil, append_assoc, Option, None}
use Rattle.std.proofs.Common.{Some, option_map, is_some}
use Rattle.std.proofs.lemmas.List.{map-append}
use Rattle.std.proofs.lemmas.Bool.{eqb-true}
use Rattle.std.proofs.lemmas.Option.{same_Some, none-some}
use Rattle.ae_rules.specs.Lookups.{has_name, is_empty}
use Rattle.ae_rules.specs.Verdict.{given}
use Rattle.ae_semantics.specs.Values.{Val, Null}
use Rattle.ae_semantics.specs.Places.{State, Bound, with}
use Rattle.ae_semantics.specs.Calls.{Argument}
use Rattle.ae_values.specs.Inside.{value_inside}
use Rattle.ae_stores.specs.Stand.{nulled}
use Rattle.ae_frames.specs.declared.given.Arg.{Arg}
use Rattle.ae_frames.specs.declared.given.Asked.{Asked}
use Rattle.ae_frames.specs.declared.given.Asked.TheVariants as asked
use Rattle.ae_frames.specs.declared.given.Standing.{Standing}
use Rattle.ae_frames.specs.Asking.{asked_in, is_once, left_by, locals_left, names_standing, nulled_if, only, stands_in}
use Rattle.ae_frames.specs.Asking.{with_locals}
use Rattle.ae_frames.specs.Givens.{argument_of, arguments_of}
use Rattle.ae_frames.proofs.from_text.Basics.{functions_agree, number_is_itself}

-- ---- a name that stands once has one place alone

named_has_place : (y : ℕ) (xs : List Asked) → has_name (names_standing xs) y ≡ not (is_empty (stands_in y xs))
named_has_place y [] = refl
named_has_place y (asked.Read a ∷ xs) = named_has_place y xs
named_has_place y (asked.Stands x ∷ xs) = by_test (named_has_place y xs) (nat_eq x.name y)
  where
    by_test : has_name (names_standing xs) y ≡ not (is_empty (stands_in y xs)) → (t : Bool) → (t || has_name (names_standing xs) y)
        ≡ not (is_empty (if t then x.fields.items ∷ stands_in y xs else stands_in y xs))
    by_test further true = refl
    by_test further false = further

-- whether a name stands once, where it was found already, or not yet
abbrev pub once_from : Bool → ℕ → List ℕ → Bool
once_from found x xs = if found then not (has_name xs x) else is_once x xs

only_of_more : (f : List ℕ) (fs : List (List ℕ)) → not (not (is_empty fs)) ≡ is_some (only (f ∷ fs))
only_of_more f [] = refl
only_of_more f (g ∷ gs) = refl

once_is_only : (y : ℕ) (xs : List Asked) → is_once y (names_standing xs) ≡ is_some (only (stands_in y xs))
once_is_only y [] = refl
once_is_only y (asked.Read a ∷ xs) = once_is_only y xs
once_is_only y (asked.Stands x ∷ xs) = by_test (once_is_only y xs) (nat_eq x.name y)
  where
    by_test : is_once y (names_standing xs) ≡ is_some (only (stands_in y xs)) → (t : Bool) → (if t then not (has_name (names_standing xs) y) else is_once y (names_standing xs))
        ≡ is_some (only (if t then x.fields.items ∷ stands_in y xs else stands_in y xs))
    by_test further true = ap not (named_has_place y xs) ∙ only_of_more x.fields.items (stands_in y xs)
    by_test further false = further

stands_in_both : (y : ℕ) (xs zs : List Asked) → stands_in y (xs ++ zs) ≡ stands_in y xs ++ stands_in y zs
stands_in_both y [] zs = refl
stands_in_both y (asked.Read a ∷ xs) zs = stands_in_both y xs zs
stands_in_both y (asked.Stands x ∷ xs) zs = by_test (stands_in_both y xs zs) (nat_eq x.name y)
  where
    by_test : stands_in y (xs ++ zs) ≡ stands_in y xs ++ stands_in y zs → (t : Bool) → (if t then x.fields.items ∷ stands_in y (xs ++ zs) else stands_in y (xs ++ zs))
        ≡ (if t then x.fields.items ∷ stands_in y xs else stands_in y xs) ++ stands_in y zs
    by_test further true = ap (λ ws. x.fields.items ∷ ws) further
    by_test further false = further

-- the only one of a list that has this one is this one, and no other follows
abbrev pub IsAlone : List ℕ → List (List ℕ) → Option (List ℕ) → Type 0
IsAlone f rest o = (g : List ℕ) → o ≡ Some g → (f ≡ g) × (rest ≡ [])

alone : (fs : List (List ℕ)) (f : List ℕ) (rest : List (List ℕ)) → IsAlone f rest (only (fs ++ f ∷ rest))
alone [] f [] g e = (same_Some f g e, refl)
alone [] f (h ∷ hs) g e = absurd (none-some g e)
alone (k ∷ []) f rest g e = absurd (none-some g e)
alone (k ∷ l ∷ ks) f rest g e = absurd (none-some g e)

-- ---- the locals while arguments are collected

-- a local is left as it will be once none of the values that are still to be collected stands in it
abbrev pub locals_between : List Asked → List Asked → (ℕ → Option Bound) → ℕ → Option Bound
locals_between all rest b y = given (only (stands_in y all)) (b y)
    (λ f. if is_empty (stands_in y rest) then option_map (nulled f) (b y) else b y)

-- the arguments so far, where these are still to be collected
pub record AreCollected (all : List Asked) (before : State) (rest : List Asked) (xs : List Arg) (s : State) : Type 0 where
  pub earlier : List Asked
  pub are : all ≡ earlier ++ rest
  pub given : arguments_of xs ++ map (asked_in before) rest ≡ map (asked_in before) all
  pub left : s ≡ with_locals (locals_between all rest before.locals) before

untouched : (o : Option (List ℕ)) (b : Option Bound) → given o b (λ f. b) ≡ b
untouched None b = refl
untouched (Some f) b = refl

-- at first all is as it was
all_is_there : (all : List Asked) (b : ℕ → Option Bound) (y : ℕ) → locals_between all all b y ≡ b y
all_is_there all b y = by_places (stands_in y all)
  where
    by_places : (fs : List (List ℕ))
        → given (only fs) (b y) (λ f. if is_empty fs then option_map (nulled f) (b y) else b y) ≡ b y
    by_places [] = refl
    by_places (f ∷ []) = refl
    by_places (f ∷ g ∷ fs) = refl

pub none_collected : (all : List Asked) (s : State) → AreCollected all s all [] s
none_collected all s = record {
  earlier = [];
  are = refl;
  given = refl;
  left = ap (λ (l : ℕ → Option Bound). with_locals l s) (sym (functions_agree (locals_between all all s.locals) s.locals
      (all_is_there all s.locals)));
}

-- a local in which a value still stands is as it was
still_there : (all rest : List Asked) (x : Standing) (b : ℕ → Option Bound)
    → locals_between all (asked.Stands x ∷ rest) b x.name ≡ b x.name
still_there all rest x b =
    ap (λ (t : Bool). given (only (stands_in x.name all)) (b x.name)
    (λ f. if is_empty (if t then x.fields.items ∷ stands_in x.name rest else stands_in x.name rest)
    then option_map (nulled f) (b x.name) else b x.name)) (number_is_itself x.name)
    ∙ untouched (only (stands_in x.name all)) (b x.name)

-- the value that is collected is the one that the caller had
same_given : (all rest : List Asked) (x : Asked) (s : State)
    → asked_in (with_locals (locals_between all (x ∷ rest) s.locals) s) x ≡ asked_in s x
same_given all rest (asked.Read a) s = refl
same_given all rest (asked.Stands x) s =
    ap (λ (o : Option Bound). made (given (given (option_map (λ (b : Bound). b.value) o) none
    (value_inside x.fields.items)) Null (λ v. v))) (still_there all rest x s.locals)
  where
    none : Option Val
    none = None

    made : Val → Argument
    made v = record { value = v; from = (asked_in s (asked.Stands x)).from }

-- the locals after one value more
left_after : (all earlier rest : List Asked) (x : Asked) (s : State) → all ≡ earlier ++ x ∷ rest
    → left_by (names_standing all) x (with_locals (locals_between all (x ∷ rest) s.locals) s)
    ≡ with_locals (locals_between all rest s.locals) s
left_after all earlier rest (asked.Read a) s are = refl
left_after all earlier rest (asked.Stands x) s are = by_once (is_once x.name (names_standing all)) refl
  where
    b : ℕ → Option Bound
    b = s.locals

    l : ℕ → Option Bound
    l = locals_between all (asked.Stands x ∷ rest) b

    -- the place of the value, and those that follow
    places : only (stands_in x.name all)
        ≡ only (stands_in x.name earlier ++ x.fields.items ∷ stands_in x.name rest)
    places = ap only (ap (stands_in x.name) are ∙ stands_in_both x.name earlier (asked.Stands x ∷ rest)
        ∙ ap (λ (t : Bool). stands_in x.name earlier
        ++ (if t then x.fields.items ∷ stands_in x.name rest else stands_in x.name rest)) (number_is_itself x.name))

    other : (y : ℕ) → nat_eq x.name y ≡ false → l y ≡ locals_between all rest b y
    other y e = ap (λ (t : Bool). given (only (stands_in y all)) (b y)
        (λ f. if is_empty (if t then x.fields.items ∷ stands_in y rest else stands_in y rest)
        then option_map (nulled f) (b y) else b y)) e

    -- where it is the only one
    taken : (o : Option (List ℕ)) → is_some o ≡ true → IsAlone x.fields.items (stands_in x.name rest) o
        → option_map (nulled x.fields.items) (b x.name)
        ≡ given o (b x.name)
        (λ f. if is_empty (stands_in x.name rest) then option_map (nulled f) (b x.name) else b x.name)
    taken None e h = absurd (cc e)
    taken (Some g) e h =
        ap (λ f. option_map (nulled f) (b x.name)) (h g refl).0
        ∙ sym (ap (λ (fs : List (List ℕ)). if is_empty fs then option_map (nulled g) (b x.name) else b x.name)
        (h g refl).1)

    here : is_once x.name (names_standing all) ≡ true
        → option_map (nulled x.fields.items) (l x.name) ≡ locals_between all rest b x.name
    here e = ap (option_map (nulled x.fields.items)) (still_there all rest x b)
        ∙ taken (only (stands_in x.name all)) (sym (once_is_only x.name all) ∙ e)
        (subst (λ o. IsAlone x.fields.items (stands_in x.name rest) o) (sym places)
        (alone (stands_in x.name earlier) x.fields.items (stands_in x.name rest)))

    by_name : is_once x.name (names_standing all) ≡ true → (y : ℕ) (t : Bool) → nat_eq x.name y ≡ t
        → (if t then option_map (nulled x.fields.items) (l x.name) else l y) ≡ locals_between all rest b y
    by_name e y true q = here e ∙ ap (locals_between all rest b) (eqb-true x.name y q)
    by_name e y false q = other y q

    -- where it is not
    not_here : (o : Option (List ℕ)) → is_some o ≡ false → b x.name
        ≡ given o (b x.name)
        (λ f. if is_empty (stands_in x.name rest) then option_map (nulled f) (b x.name) else b x.name)
    not_here None e = refl
    not_here (Some g) e = absurd (cc e)

    by_same : is_once x.name (names_standing all) ≡ false → (y : ℕ) (t : Bool) → nat_eq x.name y ≡ t
        → l y ≡ locals_between all rest b y
    by_same e y true q = subst (λ z. l z ≡ locals_between all rest b z) (eqb-true x.name y q)
        (still_there all rest x b ∙ not_here (only (stands_in x.name all)) (sym (once_is_only x.name all) ∙ e))
    by_same e y false q = other y q

    by_once : (t : Bool) → is_once x.name (names_standing all) ≡ t
        → nulled_if t x.name x.fields.items (with_locals l s) ≡ with_locals (locals_between all rest b) s
    by_once true e = ap (λ (m : ℕ → Option Bound). with_locals m s)
        (functions_agree (with x.name (option_map (nulled x.fields.items) (l x.name)) l) (locals_between all rest b)
        (λ y. by_name e y (nat_eq x.name y) refl))
    by_once false e = ap (λ (m : ℕ → Option Bound). with_locals m s)
        (functions_agree l (locals_between all rest b) (λ y. by_same e y (nat_eq x.name y) refl))

pub one_more_collected : (all : List Asked) (before : State) (rest : List Asked) (xs ys : List Arg) (x : Asked) (a : Arg)
    (s t : State) → AreCollected all before (x ∷ rest) xs s → argument_of a ≡ asked_in s x
    → t ≡ left_by (names_standing all) x s → ys ≡ xs ++ a ∷ [] → AreCollected all before rest ys t
one_more_collected all before rest xs ys x a s t h is left more = record {
  earlier = h.earlier ++ x ∷ [];
  are = h.are ∙ sym (append_assoc h.earlier (x ∷ []) rest);
  given = ap (λ zs. arguments_of zs ++ map (asked_in before) rest) more
      ∙ ap (λ zs. zs ++ map (asked_in before) rest) (map-append argument_of xs (a ∷ []))
      ∙ append_assoc (arguments_of xs) (argument_of a ∷ []) (map (asked_in before) rest)
      ∙ ap (λ (v : Argument). arguments_of xs ++ v ∷ map (asked_in before) rest)
      (is ∙ ap (λ (u : State). asked_in u x) h.left ∙ same_given all rest x before)
      ∙ h.given;
  left = left ∙ ap (left_by (names_standing all) x) h.left ∙ left_after all h.earlier rest x before h.are;
}

pub all_given : (all : List Asked) (before : State) (xs : List Arg) (s : State) → AreCollected all before [] xs s
    → arguments_of xs ≡ map (asked_in before) all
all_given all before xs s h = sym (append-nil (arguments_of xs)) ∙ h.given

pub all_left : (all : List Asked) (before : State) (xs : List Arg) (s : State) → AreCollected all before [] xs s
    → s ≡ with_locals (locals_left all before.locals) before
all_left all before xs s h = h.left
