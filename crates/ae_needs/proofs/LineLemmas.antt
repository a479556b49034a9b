-- What statements in order use, seen from the first and from the rest.
use Rattle.std.proofs.Common.{◌≡◌, ◌⊎◌, inl, inr, refl, sym, ap, ◌∙◌, Bool, true, Option, None, Some}
use Rattle.std.specs.Prelude.{is_some}
use Rattle.std.proofs.lemmas.Bool.{or_left, or_right}
use Rattle.ae_text.specs.declared.refusal.Spot.{Spot}
use Rattle.ae_tree.specs.Plain.{Action, Lines, Next, Definition, Code}
use Rattle.ae_rules.specs.declared.uses.Resource.{Resource}
use Rattle.ae_rules.specs.declared.uses.Resource.TheVariants as resource
use Rattle.ae_rules.specs.declared.uses.Mode.{Mode}
use Rattle.ae_rules.specs.Edges.{Uses}
use Rattle.ae_rules.specs.Verdict.{Verdict}
use Rattle.ae_rules.specs.Context.{Local, Context}
use Rattle.ae_rules.specs.EdgeLaws.{ChangesAreUsed}
use Rattle.ae_rules.specs.Uses.{stronger, of_judged, is_seen, statement_uses, lines_use}
use Rattle.ae_rules.specs.Statements.{judge_statement}
use Rattle.ae_rules.specs.Judges.{Judges}
use Rattle.ae_needs.specs.Agree.{Covers, with_used}
use Rattle.ae_needs.proofs.AgreeLemmas.{stronger_left, stronger_right}
use Rattle.ae_needs.proofs.NewLemmas.{in_or_used}

-- what is used by both is used by one
used_by_one : (o q : Option Mode) → is_some (stronger o q) ≡ true → (is_some o ≡ true) ⊎ (is_some q ≡ true)
used_by_one None q e = inr e
used_by_one (Some m) q e = inl refl

module _ (p : Code) (m : Definition) (at : Spot) (a : Action) (b : Lines) (c d : Context)
    (h : Judges p m at a c d) where
  abbrev first_uses : Uses
  first_uses = statement_uses p m a c

  abbrev rest_uses : Uses
  rest_uses = of_judged (judge_statement p m at a c) (lines_use p m b)

  rest_is : (r : Resource) → rest_uses r ≡ lines_use p m b d r
  rest_is r = ap (λ (v : Verdict Context). of_judged v (lines_use p m b) r) h

  -- What covers the lines covers the first.
  pub first_covered : (on : Resource → Bool) → Covers on c (lines_use p m (Next at a b) c) → Covers on c first_uses
  first_covered on i r e j = i r e (stronger_left (first_uses r) (rest_uses r) j)

  -- What is visible after the first statement was so before it, or the statement uses it.
  seen_or_used : ChangesAreUsed → (r : Resource) → is_seen d r ≡ true
      → (is_seen c r ≡ true) ⊎ (is_some (first_uses r) ≡ true)
  seen_or_used law (resource.Local x) e = elim ((law p m at a c d h).0 x) [
    | inl i ↦ inr (ap is_some i)
    | inr i ↦ inl (sym (ap (λ (o : Option Local). is_some o) i) ∙ e)
  ]
  seen_or_used law (resource.Group g) e = elim ((law p m at a c d h).1 g) [
    | inl i ↦ inr (ap is_some i)
    | inr i ↦ inl (sym (ap (λ o. is_some o) i) ∙ e)
  ]

  -- What covers the lines, with what the first uses, covers the rest.
  pub rest_covered : ChangesAreUsed → (on : Resource → Bool) → Covers on c (lines_use p m (Next at a b) c)
      → Covers (with_used first_uses on) d (lines_use p m b d)
  rest_covered law on i r e j = elim (seen_or_used law r e) [
    | inl k ↦ or_left (on r) (is_some (first_uses r))
        (i r k (stronger_right (first_uses r) (rest_uses r) (ap is_some (rest_is r) ∙ j)))
    | inr k ↦ or_right (on r) (is_some (first_uses r)) k
  ]

  -- What is in the set, or used by the lines, is in the set with what the first uses, or used by the rest.
  pub used_later : (on : Resource → Bool) (r : Resource) → with_used (lines_use p m (Next at a b) c) on r ≡ true
      → with_used (lines_use p m b d) (with_used first_uses on) r ≡ true
  used_later on r e = elim (in_or_used on (lines_use p m (Next at a b) c) r e) [
    | inl i ↦ or_left (with_used first_uses on r) (is_some (lines_use p m b d r)) (or_left (on r) (is_some
        (first_uses r)) i)
    | inr i ↦ by_one (used_by_one (first_uses r) (rest_uses r) i)
  ]
    where
      by_one : (is_some (first_uses r) ≡ true) ⊎ (is_some (rest_uses r) ≡ true)
          → with_used (lines_use p m b d) (with_used first_uses on) r ≡ true
      by_one (inl k) = or_left (with_used first_uses on r) (is_some (lines_use p m b d r))
          (or_right (on r) (is_some (first_uses r)) k)
      by_one (inr k) = or_right (with_used first_uses on r) (is_some (lines_use p m b d r))
          (sym (ap is_some (rest_is r)) ∙ k)
