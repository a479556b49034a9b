use Rattle.std.proofs.Common.{◌≡◌, ℕ, List, ◌++◌, sym, ap, ◌∙◌, subst}
use Rattle.std.specs.List.{Contains}
use Rattle.ae_uses.proofs.footprint.joined.Goals as goal

pub returns : goal.returns
returns c =
    let both : c.extend_from_slice-2.new.self.items ≡ c.args.first.now ++ c.args.second.now =
    c.in_ok-extend_from_slice-2.ensures.items ∙ ap (λ (l : List ℕ). l ++ c.args.second.now)
    (c.in_ok-extend_from_slice.ensures.items ∙ ap (λ (l : List ℕ). l ++ c.args.first.now) c.new-names.ensures.items) in
    record {
      in_order = c.each_once.ensures.in_order;
      same = λ x. (
        (λ h. subst (λ (l : List ℕ). Contains l x) both ((c.each_once.ensures.same x).0 h)),
        (λ h. (c.each_once.ensures.same x).1 (subst (λ (l : List ℕ). Contains l x) (sym both) h)),
      );
    }
