-- Facts on the names that are given away, parameter by parameter.
use Rattle.std.proofs.Common.{◌≡◌, ◌∙◌, ℕ, zero, suc, ◌+◌, ◌<◌, List, [], ◌∷◌, ◌++◌, drop, length, get_or, Option}
use Rattle.std.proofs.Common.{None, Some}
use Rattle.std.proofs.Common.{refl, ap, sym, slice_get, append_assoc, arith}
use Rattle.std.specs.Prelude.{zip, filter_map}
use Rattle.std.specs.List.{cons_option}
use Rattle.std.proofs.lemmas.List.{drop_more}
use Rattle.ae_tree.specs.Plain.{Expression}
use Rattle.ae_rules.specs.Verdict.{given}
use Rattle.ae_semantics.specs.Calls.{given_away}
use Rattle.ae_frames.specs.declared.given.Parameter.{Parameter}
use Rattle.ae_frames.specs.Givens.{taker_of, takers_of}

-- the names that are given away with these parameters
abbrev pub gone_with : List Parameter → List Expression → List ℕ
gone_with ts es = filter_map given_away (zip (takers_of ts) es)

-- the name that is given away with one parameter and what it is given
abbrev pub gone_at : Parameter → Option Expression → Option ℕ
gone_at t o = given o None (λ e. given_away (taker_of t, e))

-- what there is from a place on
pub from_there_on : (es : List Expression) (i : ℕ) → drop i es ≡ cons_option (slice_get es i) (drop (suc i) es)
from_there_on [] zero = refl
from_there_on [] (suc i) = refl
from_there_on (e ∷ es) zero = refl
from_there_on (e ∷ es) (suc i) = from_there_on es i

one_gone : (t : Parameter) (ts : List Parameter) (o : Option Expression) (es : List Expression) (more : (o ≡ None
    → es ≡ []))
    → gone_with (t ∷ ts) (cons_option o es) ≡ cons_option (gone_at t o) (gone_with ts es)
one_gone t ts None es more = ap (gone_with (t ∷ ts)) (more refl) ∙ sym (ap (gone_with ts) (more refl) ∙ no_more ts)
  where
    no_more : (us : List Parameter) → gone_with us [] ≡ []
    no_more [] = refl
    no_more (u ∷ us) = refl
one_gone t ts (Some e) es more = refl

pub nothing_further : (es : List Expression) (i : ℕ) → slice_get es i ≡ None → drop (suc i) es ≡ []
nothing_further [] zero h = refl
nothing_further [] (suc i) h = refl
nothing_further (e ∷ es) zero h = absurd (cc)
nothing_further (e ∷ es) (suc i) h = nothing_further es i h

one_first : {A : Type 0} (o : Option A) (xs : List A) → cons_option o xs ≡ cons_option o [] ++ xs
one_first None xs = refl
one_first (Some x) xs = refl

-- one parameter more: the rest completes the whole
pub gone_one_more : (all : List ℕ) (ts : List Parameter) (es : List Expression) (i : ℕ) (t : Parameter) (o : Option ℕ)
    (xs ys : List ℕ) → i < length ts → xs ++ gone_with (drop i ts) (drop i es) ≡ all → t ≡ get_or ts i t
    → o ≡ gone_at t (slice_get es i) → ys ≡ xs ++ cons_option o []
    → ys ++ gone_with (drop (i + 1) ts) (drop (i + 1) es) ≡ all
gone_one_more all ts es i t o xs ys below so at is more =
    let next : suc i ≡ i + 1 = omega arith in
    let rest : List ℕ = gone_with (drop (i + 1) ts) (drop (i + 1) es) in
    ap (λ zs. zs ++ rest) more ∙ append_assoc xs (cons_option o []) rest
    ∙ ap (λ zs. xs ++ zs) (sym (one_first o rest) ∙ ap (λ (n : Option ℕ). cons_option n rest) is
    ∙ sym (one_gone t (drop (i + 1) ts) (slice_get es i) (drop (i + 1) es) (λ h. ap (λ (n : ℕ). drop n es) (sym
    next) ∙ nothing_further es i h)))
    ∙ ap (λ (u : Parameter). xs ++ gone_with (u ∷ drop (i + 1) ts) (cons_option (slice_get es i) (drop (i + 1) es))) at
    ∙ ap (λ (us : List Parameter). xs ++ gone_with us (cons_option (slice_get es i) (drop (i + 1) es)))
    (sym (drop_more ts i t below))
    ∙ ap (λ (fs : List Expression). xs ++ gone_with (drop i ts) fs) (sym (from_there_on es i
    ∙ ap (λ (n : ℕ). cons_option (slice_get es i) (drop n es)) next)) ∙ so
