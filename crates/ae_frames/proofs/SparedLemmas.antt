-- Facts on the locals of a caller out of which values were handed over: what is not there comes back, or is given away.
use Rattle.std.proofs.Common.{◌≡◌, ◌⊎◌, inl, inr, refl, sym, ap, ◌∙◌, subst, ℕ, nat_eq, Bool, true, false}
use Rattle.std.proofs.Common.{not, ◌&&◌, ◌||◌, if◌then◌else◌, List, [], ◌∷◌, map, Option, None, Some, option_map}
use Rattle.std.specs.Prelude.{zip, filter_map}
use Rattle.std.specs.List.{cons_option}
use Rattle.std.proofs.lemmas.Bool.{eqb-true}
use Rattle.ae_tree.specs.Plain.{Expression}
use Rattle.ae_rules.specs.Lookups.{has_name}
use Rattle.ae_rules.specs.Verdict.{given}
use Rattle.ae_semantics.specs.Places.{State, Bound}
use Rattle.ae_semantics.specs.Calls.{Taker, given_away, value_comes_back}
use Rattle.ae_reads.specs.declared.found.Base as code
use Rattle.ae_reads.specs.declared.found.Base.TheVariants as b
use Rattle.ae_reads.specs.Views.{base_of}
use Rattle.ae_stores.specs.Stand.{nulled}
use Rattle.ae_frames.specs.declared.given.Origin.{Origin}
use Rattle.ae_frames.specs.declared.given.Asked.{Asked}
use Rattle.ae_frames.specs.declared.given.Asked.TheVariants as asked
use Rattle.ae_frames.specs.declared.given.Standing.{Standing}
use Rattle.ae_frames.specs.Asking.{asked_in, is_in_local, is_name, AreSpared, locals_left, only, standing_at}
use Rattle.ae_frames.specs.Asking.{stands_in}
use Rattle.ae_frames.specs.Givens.{origin_of}
use Rattle.ae_frames.specs.Kept.{ComesBack, IsLocalLeft, AsItWas, GivenAway, TakenOut, back_from, backs_to, returning}
use Rattle.ae_frames.proofs.TakenLemmas.{first_same, swapped}

-- what comes back of these arguments
abbrev pub backs : List Taker → List Asked → State → List ComesBack
backs ts xs s = filter_map returning (zip ts (map (asked_in s) xs))

-- the names that are given away
abbrev pub goners : List Taker → List Expression → List ℕ
goners ts es = filter_map given_away (zip ts es)

-- nothing is given away where nothing is given
none_given : (ts : List Taker) → goners ts [] ≡ []
none_given [] = refl
none_given (t ∷ ts) = refl

-- a value of its own comes back to no local
own_elsewhere : (y name : ℕ) (comes : Bool) (o : Option Origin) (rest : List ComesBack)
    → not (comes && given o false (λ from. is_in_local (base_of from.base))) ≡ true
    → backs_to y (cons_option (back_from name comes (option_map origin_of o)) rest) ≡ backs_to y rest
own_elsewhere y name comes None rest h = refl
own_elsewhere y name comes (Some from) rest h = by_comes comes from.base h
  where
    by_comes : (t : Bool) (base : code.Base) → not (t && is_in_local (base_of base)) ≡ true
        → backs_to y (cons_option (back_from name t (Some (record { base = base_of base; fields = from.fields.items })))
        rest) ≡ backs_to y rest
    by_comes false base k = refl
    by_comes true (b.Local x) k = absurd (cc k)
    by_comes true (b.Member m) k = refl

-- a value that stands in another local comes back to that one
elsewhere : (y name : ℕ) (comes : Bool) (x : Standing) (rest : List ComesBack) → nat_eq x.name y ≡ false
    → backs_to y (cons_option (back_from name comes (Some (standing_at x))) rest) ≡ backs_to y rest
elsewhere y name false x rest e = refl
elsewhere y name true x rest e =
    ap (λ (t : Bool). if t then x.fields.items ∷ backs_to y rest else backs_to y rest) (swapped y x.name ∙ e)

-- one that stands in this local comes back to it
right_here : (y name : ℕ) (x : Standing) (rest : List ComesBack) → nat_eq x.name y ≡ true
    → backs_to y (cons_option (back_from name true (Some (standing_at x))) rest) ≡ x.fields.items ∷ backs_to y rest
right_here y name x rest e =
    ap (λ (t : Bool). if t then x.fields.items ∷ backs_to y rest else backs_to y rest) (swapped y x.name ∙ e)

no_more_places : (f : List ℕ) (fs : List (List ℕ)) → f ∷ fs ≡ [] → ⊥
no_more_places f fs h = absurd (cc h)

rest_same : {A : Type 0} (x y : A) (xs ys : List A) → x ∷ xs ≡ y ∷ ys → xs ≡ ys
rest_same x y xs ys h = cc

-- where no value of an argument stands in a local none comes back to it
nothing_comes : (y : ℕ) (s : State) (ts : List Taker) (es : List Expression) (xs : List Asked) → AreSpared ts es xs
    → stands_in y xs ≡ [] → backs_to y (backs ts xs s) ≡ []
nothing_comes y s [] es [] h none = refl
nothing_comes y s (t ∷ ts) es [] h none = refl
nothing_comes y s [] es (x ∷ xs) h none = refl
nothing_comes y s (t ∷ ts) [] (asked.Read a ∷ xs) h none =
    own_elsewhere y t.0 (value_comes_back t.1) a.from (backs ts xs s) h.0 ∙ nothing_comes y s ts [] xs h.1 none
nothing_comes y s (t ∷ ts) (e ∷ es) (asked.Read a ∷ xs) h none =
    own_elsewhere y t.0 (value_comes_back t.1) a.from (backs ts xs s) h.0 ∙ nothing_comes y s ts es xs h.1 none
nothing_comes y s (t ∷ ts) [] (asked.Stands x ∷ xs) h none =
    by_test (nothing_comes y s ts [] xs h.1) (nat_eq x.name y) refl none
  where
    by_test : (stands_in y xs ≡ [] → backs_to y (backs ts xs s) ≡ []) → (u : Bool) → nat_eq x.name y ≡ u
        → (if u then x.fields.items ∷ stands_in y xs else stands_in y xs) ≡ []
        → backs_to y (backs (t ∷ ts) (asked.Stands x ∷ xs) s) ≡ []
    by_test further true q k = absurd (no_more_places x.fields.items (stands_in y xs) k)
    by_test further false q k = elsewhere y t.0 (value_comes_back t.1) x (backs ts xs s) q ∙ further k
nothing_comes y s (t ∷ ts) (e ∷ es) (asked.Stands x ∷ xs) h none =
    by_test (nothing_comes y s ts es xs h.1) (nat_eq x.name y) refl none
  where
    by_test : (stands_in y xs ≡ [] → backs_to y (backs ts xs s) ≡ []) → (u : Bool) → nat_eq x.name y ≡ u
        → (if u then x.fields.items ∷ stands_in y xs else stands_in y xs) ≡ []
        → backs_to y (backs (t ∷ ts) (asked.Stands x ∷ xs) s) ≡ []
    by_test further true q k = absurd (no_more_places x.fields.items (stands_in y xs) k)
    by_test further false q k = elsewhere y t.0 (value_comes_back t.1) x (backs ts xs s) q ∙ further k

-- The one value comes back to the local, or the local is given away.
abbrev pub IsOne : ℕ → List ℕ → List ComesBack → List ℕ → Type 0
IsOne y f bs gone = (backs_to y bs ≡ f ∷ []) ⊎ (has_name gone y ≡ true)

-- one name more is given away
gone_more : (y : ℕ) (f : List ℕ) (bs cs : List ComesBack) (o : Option ℕ) (gone : List ℕ)
    → backs_to y cs ≡ backs_to y bs → IsOne y f bs gone → IsOne y f cs (cons_option o gone)
gone_more y f bs cs None gone same (inl e) = inl (same ∙ e)
gone_more y f bs cs None gone same (inr h) = inr h
gone_more y f bs cs (Some x) gone same (inl e) = inl (same ∙ e)
gone_more y f bs cs (Some x) gone same (inr h) = inr (by_test (nat_eq x y))
  where
    by_test : (t : Bool) → (t || has_name gone y) ≡ true
    by_test true = refl
    by_test false = h

-- the value that stands in the local is the first one
first_is_one : (y name : ℕ) (f : List ℕ) (comes : Bool) (o : Option ℕ) (x : Standing) (rest : List ComesBack)
    (gone : List ℕ) → nat_eq x.name y ≡ true → x.fields.items ≡ f → backs_to y rest ≡ []
    → (comes || is_name x.name o) ≡ true
    → IsOne y f (cons_option (back_from name comes (Some (standing_at x))) rest) (cons_option o gone)
first_is_one y name f true o x rest gone q same none h =
    inl (right_here y name x rest q ∙ ap (λ fs. x.fields.items ∷ fs) none ∙ ap (λ (g : List ℕ). g ∷ []) same)
first_is_one y name f false None x rest gone q same none h = absurd (cc h)
first_is_one y name f false (Some z) x rest gone q same none h =
    inr (ap (λ (t : Bool). t || has_name gone y)
    (ap (λ w. nat_eq w y) (sym (eqb-true x.name z h)) ∙ q))

one_comes : (y : ℕ) (f : List ℕ) (s : State) (ts : List Taker) (es : List Expression) (xs : List Asked)
    → AreSpared ts es xs → stands_in y xs ≡ f ∷ [] → IsOne y f (backs ts xs s) (goners ts es)
one_comes y f s ts es [] h one = absurd (no_more_places f [] (sym one))
one_comes y f s [] es (asked.Read a ∷ xs) h one = one_comes_none xs h.1 one
  where
    one_comes_none : (zs : List Asked) → AreSpared [] [] zs → stands_in y zs ≡ f ∷ [] → IsOne y f [] []
    one_comes_none [] k e = absurd (no_more_places f [] (sym e))
    one_comes_none (asked.Read c ∷ zs) k e = one_comes_none zs k.1 e
    one_comes_none (asked.Stands z ∷ zs) k e = absurd (cc k.0)
one_comes y f s [] es (asked.Stands x ∷ xs) h one = absurd (cc h.0)
one_comes y f s (t ∷ ts) [] (asked.Read a ∷ xs) h one = by_rest (one_comes y f s ts [] xs h.1 one)
  where
    by_rest : IsOne y f (backs ts xs s) (goners ts []) → IsOne y f (backs (t ∷ ts) (asked.Read a ∷ xs) s) []
    by_rest k = gone_more y f (backs ts xs s) (backs (t ∷ ts) (asked.Read a ∷ xs) s) None []
        (own_elsewhere y t.0 (value_comes_back t.1) a.from (backs ts xs s) h.0)
        (subst (λ gone. IsOne y f (backs ts xs s) gone) (none_given ts) k)
one_comes y f s (t ∷ ts) (e ∷ es) (asked.Read a ∷ xs) h one =
    gone_more y f (backs ts xs s) (backs (t ∷ ts) (asked.Read a ∷ xs) s) (given_away (t, e)) (goners ts es)
    (own_elsewhere y t.0 (value_comes_back t.1) a.from (backs ts xs s) h.0) (one_comes y f s ts es xs h.1 one)
one_comes y f s (t ∷ ts) [] (asked.Stands x ∷ xs) h one =
    by_test (one_comes y f s ts [] xs h.1) (nat_eq x.name y) refl one
  where
    by_test : (stands_in y xs ≡ f ∷ [] → IsOne y f (backs ts xs s) (goners ts [])) → (u : Bool) → nat_eq x.name y ≡ u
        → (if u then x.fields.items ∷ stands_in y xs else stands_in y xs) ≡ f ∷ []
        → IsOne y f (backs (t ∷ ts) (asked.Stands x ∷ xs) s) []
    by_test further true q k = first_is_one y t.0 f (value_comes_back t.1) None x (backs ts xs s) [] q
        (first_same x.fields.items f (stands_in y xs) [] k)
        (nothing_comes y s ts [] xs h.1 (rest_same x.fields.items f (stands_in y xs) [] k)) h.0
    by_test further false q k = gone_more y f (backs ts xs s) (backs (t ∷ ts) (asked.Stands x ∷ xs) s) None []
        (elsewhere y t.0 (value_comes_back t.1) x (backs ts xs s) q)
        (subst (λ gone. IsOne y f (backs ts xs s) gone) (none_given ts) (further k))
one_comes y f s (t ∷ ts) (e ∷ es) (asked.Stands x ∷ xs) h one =
    by_test (one_comes y f s ts es xs h.1) (nat_eq x.name y) refl one
  where
    by_test : (stands_in y xs ≡ f ∷ [] → IsOne y f (backs ts xs s) (goners ts es)) → (u : Bool) → nat_eq x.name y ≡ u
        → (if u then x.fields.items ∷ stands_in y xs else stands_in y xs) ≡ f ∷ []
        → IsOne y f (backs (t ∷ ts) (asked.Stands x ∷ xs) s) (goners (t ∷ ts) (e ∷ es))
    by_test further true q k = first_is_one y t.0 f (value_comes_back t.1) (given_away (t, e)) x (backs ts xs s) (goners ts es) q
        (first_same x.fields.items f (stands_in y xs) [] k)
        (nothing_comes y s ts es xs h.1 (rest_same x.fields.items f (stands_in y xs) [] k)) h.0
    by_test further false q k = gone_more y f (backs ts xs s) (backs (t ∷ ts) (asked.Stands x ∷ xs) s) (given_away (t, e))
        (goners ts es) (elsewhere y t.0 (value_comes_back t.1) x (backs ts xs s) q) (further k)

-- each local of the caller is left as it may be
pub locals_are_left : (s : State) (ts : List Taker) (es : List Expression) (xs : List Asked) (l : ℕ → Option Bound)
    → AreSpared ts es xs → (y : ℕ) → IsLocalLeft (backs ts xs s) (goners ts es) y (l y) (locals_left xs l y)
locals_are_left s ts es xs l h y = by_places (stands_in y xs) refl
  where
    by_one : (f : List ℕ) → IsOne y f (backs ts xs s) (goners ts es)
        → IsLocalLeft (backs ts xs s) (goners ts es) y (l y) (option_map (nulled f) (l y))
    by_one f (inl e) = TakenOut f e refl
    by_one f (inr e) = GivenAway e

    by_places : (fs : List (List ℕ)) → stands_in y xs ≡ fs
        → IsLocalLeft (backs ts xs s) (goners ts es) y (l y) (given (only fs) (l y) (λ f. option_map (nulled f) (l y)))
    by_places [] e = AsItWas refl
    by_places (f ∷ []) e = by_one f (one_comes y f s ts es xs h e)
    by_places (f ∷ g ∷ fs) e = AsItWas refl
