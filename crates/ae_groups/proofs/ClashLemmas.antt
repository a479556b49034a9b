-- Needs of one group, found one after the other.
use Rattle.std.proofs.Common.{◌≡◌, ◌<◌, ◌+◌, ℕ, nat_eq, Bool, true, false, ◌&&◌, ◌||◌, if◌then◌else◌, List, []}
use Rattle.std.proofs.Common.{◌∷◌, drop, get_or, length, refl, sym, ap, ◌∙◌}
use Rattle.std.specs.List.{list_any}
use Rattle.std.proofs.lemmas.List.{drop_more}
use Rattle.ae_tree.specs.declared.tree.Need.TheVariants as need_of
use Rattle.ae_rules.specs.Groups.{Wanted, are_shared, clash, any_clash}
use Rattle.ae_groups.specs.Needed.{Needed, no_needs, with_need, hits}

-- ---- none so far

not_hit : (n : Wanted) → hits no_needs n ≡ false
not_hit n = by_need (are_shared n.0 n.0)
  where
    by_need : (b : Bool) → (if b then false else false) ≡ false
    by_need true = refl
    by_need false = refl

none_of_these : (ns : List Wanted) → list_any (hits no_needs) ns ≡ false
none_of_these [] = refl
none_of_these (n ∷ ns) = rw (not_hit n) (none_of_these ns)

-- where no needs came before, only these can clash
pub none_hit_so_far : (e : Needed) (ns : List Wanted) → e ≡ no_needs → any_clash ns ≡ (list_any (hits e) ns || any_clash ns)
none_hit_so_far e ns k = sym (ap (λ (d : Needed). list_any (hits d) ns || any_clash ns) k
    ∙ ap (λ (b : Bool). b || any_clash ns) (none_of_these ns))

-- ---- one more

swapped : (a b : Bool) → (a || b) ≡ (b || (a && true))
swapped true true = refl
swapped true false = refl
swapped false true = refl
swapped false false = refl

alone : (a b : Bool) → b ≡ (b || (a && false))
alone true true = refl
alone true false = refl
alone false true = refl
alone false false = refl

-- a need hits those before it and one more, where it hits those or the one
hit_with : (n m : Wanted) (e : Needed) → hits (with_need n e) m ≡ (hits e m || clash n m)
hit_with (need_of.Shared, g) (need_of.Shared, h) e = alone (nat_eq g h) (e.unshared h)
hit_with (need_of.Shared, g) (need_of.Exclusive, h) e = swapped (nat_eq g h) (e.all h)
hit_with (need_of.Shared, g) (need_of.Protected, h) e = swapped (nat_eq g h) (e.all h)
hit_with (need_of.Exclusive, g) (need_of.Shared, h) e = swapped (nat_eq g h) (e.unshared h)
hit_with (need_of.Exclusive, g) (need_of.Exclusive, h) e = swapped (nat_eq g h) (e.all h)
hit_with (need_of.Exclusive, g) (need_of.Protected, h) e = swapped (nat_eq g h) (e.all h)
hit_with (need_of.Protected, g) (need_of.Shared, h) e = swapped (nat_eq g h) (e.unshared h)
hit_with (need_of.Protected, g) (need_of.Exclusive, h) e = swapped (nat_eq g h) (e.all h)
hit_with (need_of.Protected, g) (need_of.Protected, h) e = swapped (nat_eq g h) (e.all h)

regrouped : (a b x y : Bool) → ((a || b) || (x || y)) ≡ ((a || x) || (b || y))
regrouped true b x y = refl
regrouped false true true y = refl
regrouped false true false y = refl
regrouped false false true y = refl
regrouped false false false y = refl

any_hit_with : (n : Wanted) (ms : List Wanted) (e : Needed)
    → list_any (hits (with_need n e)) ms ≡ (list_any (hits e) ms || list_any (clash n) ms)
any_hit_with n [] e = refl
any_hit_with n (m ∷ ms) e =
    ap (λ (b : Bool). b || list_any (hits (with_need n e)) ms) (hit_with n m e)
    ∙ ap (λ (b : Bool). (hits e m || clash n m) || b) (any_hit_with n ms e)
    ∙ regrouped (hits e m) (clash n m) (list_any (hits e) ms) (list_any (clash n) ms)

taken_in : (a b x y z : Bool) → b ≡ false → z ≡ (a || x) → ((b || a) || (x || y)) ≡ (z || y)
taken_in a true x y z e f = absurd (cc)
taken_in true false x y z e f = ap (λ (c : Bool). c || y) (sym f)
taken_in false false true y z e f = ap (λ (c : Bool). c || y) (sym f)
taken_in false false false y z e f = ap (λ (c : Bool). c || y) (sym f)

-- a need that hits none of those before it is one of them for the rest
pub next_need_added : (ns : List Wanted) (i : ℕ) (n : Wanted) (v : Bool) (e d : Needed) → i < length ns
    → v ≡ (list_any (hits e) (drop i ns) || any_clash (drop i ns)) → hits e (get_or ns i n) ≡ false
    → d ≡ with_need (get_or ns i n) e
    → v ≡ (list_any (hits d) (drop (i + 1) ns) || any_clash (drop (i + 1) ns))
next_need_added ns i n v e d l r h w =
    let m = get_or ns i n in
    let rest = drop (i + 1) ns in
    r ∙ ap (λ (ms : List Wanted). list_any (hits e) ms || any_clash ms) (drop_more ns i n l)
    ∙ taken_in (list_any (hits e) rest) (hits e m) (list_any (clash m) rest) (any_clash rest) (list_any (hits d) rest) h
    (ap (λ (k : Needed). list_any (hits k) rest) w ∙ any_hit_with m rest e)
