-- What is picked is fixed, and what value_fits is not too high.
use Rattle.std.proofs.Common.{◌≡◌, ◌<◌, ◌⊎◌, inl, inr, refl, ap, sym, subst, ◌∙◌, arith, ℕ, zero, suc, Bool, true}
use Rattle.std.proofs.Common.{false, ◌&&◌, List, [], ◌∷◌, length, Option, None, Some}
use Rattle.std.specs.Prelude.{map}
use Rattle.ae_tree.specs.declared.form.Form.{Form}
use Rattle.ae_tree.specs.Plain.{Code}
use Rattle.ae_rules.specs.Context.{all_below, each_name}
use Rattle.ae_semantics.specs.Values.{value_fits, is_low}
use Rattle.ae_rules.specs.Forms.{same_form}
use Rattle.ae_semantics.specs.Places.{Bound}
use Rattle.ae_semantics.specs.Blocks.{fits_form, same_presence, wanted, name_fits}
use Rattle.ae_semantics.specs.Report.{Picks, part_of_report, IsReported, first_of}
use Rattle.std.proofs.lemmas.Option.{same_Some}
use Rattle.ae_semantics.specs.Laws.{CellsAreFixed, FittingIsLow}

-- two lists that are picked alike are one
picked_alike : {A : Type 0} (passes : A → Type 0) (xs ys zs : List A) → Picks passes xs ys → Picks passes xs zs
    → ys ≡ zs
picked_alike passes [] ys zs d e = d ∙ sym e
picked_alike passes (x ∷ xs) ys zs (inl d) (inl e) = d.1.1 ∙ ap (λ (l : List _). x ∷ l)
    (picked_alike passes xs d.1.0 e.1.0 d.1.2 e.1.2) ∙ sym e.1.1
picked_alike passes (x ∷ xs) ys zs (inl d) (inr e) = absurd (e.0 d.0)
picked_alike passes (x ∷ xs) ys zs (inr d) (inl e) = absurd (d.0 e.0)
picked_alike passes (x ∷ xs) ys zs (inr d) (inr e) = picked_alike passes xs ys zs d.1 e.1

pub cells_are_fixed : CellsAreFixed
cells_are_fixed p ints fuel r cells e d = picked_alike (IsReported p ints fuel r)
    (part_of_report p ints fuel r).firsts cells (map first_of r.cells) d e.cells

-- ---- heights

both_true : (a b : Bool) → (a && b) ≡ true → (a ≡ true) × (b ≡ true)
both_true true true e = (refl, refl)
both_true true false e = absurd (cc e)
both_true false b e = absurd (cc e)

last_or_before : (x n : ℕ) → x < suc n → (x ≡ n) ⊎ (x < n)
last_or_before zero zero l = inl refl
last_or_before zero (suc n) l = inr (omega arith)
last_or_before (suc x) zero l = absurd (omega (arith, l))
last_or_before (suc x) (suc n) l = later (last_or_before x n (omega (arith, l)))
  where
    later : (x ≡ n) ⊎ (x < n) → (suc x ≡ suc n) ⊎ (suc x < suc n)
    later (inl e) = inl (ap suc e)
    later (inr k) = inr (omega (arith, k))

below_true : (n : ℕ) (test : ℕ → Bool) → all_below n test ≡ true → (x : ℕ) → x < n → test x ≡ true
below_true zero test e x l = absurd (omega (arith, l))
below_true (suc n) test e x l = of_cases (below_true n test (both_true (test n) (all_below n test) e).1 x)
    (last_or_before x n l)
  where
    of_cases : (x < n → test x ≡ true) → (x ≡ n) ⊎ (x < n) → test x ≡ true
    of_cases h (inl d) = ap test d ∙ (both_true (test n) (all_below n test) e).0
    of_cases h (inr k) = h k

low_form : (p : Code) (k : Form) (b : Bound) → fits_form p k b ≡ true → is_low b.value ≡ true
low_form p k b e = (both_true (same_form k b.form && value_fits p k b.value) (is_low b.value) e).1

low_where : (p : Code) (wants : Option Form) (o : Option Bound) (b : Bound) → o ≡ Some b
    → same_presence wants o (fits_form p) ≡ true → is_low b.value ≡ true
low_where p wants None b e d = absurd (cc e)
low_where p None (Some y) b e d = absurd (cc d)
low_where p (Some k) (Some y) b e d = subst (λ (z : Bound). is_low z.value ≡ true) (same_Some y b e) (low_form p k y d)

pub fitting_is_low : FittingIsLow
fitting_is_low p u later before out e x l b d = low_where p (wanted u later x) (out.locals x) b d
    (both_true (same_presence (wanted u later x) (out.locals x) (fits_form p)) _
    (below_true (length p.names) (name_fits p u later before out)
    (both_true (each_name p (name_fits p u later before out)) _ e).0 x l)).0
