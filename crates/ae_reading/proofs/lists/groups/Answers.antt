use Rattle.ae_tree.specs.Grammar.{groups}
use Rattle.ae_reading.specs.Reads.{itself, Free, Always}
use Rattle.ae_reading.proofs.ReadsLemmas.{passes, took_when, failed_when}
use Rattle.ae_reading.specs.Parts.{angled}
use Rattle.ae_reading.proofs.TypeLemmas.{NoLess, angled_when, groups_none}
use Rattle.ae_reading.proofs.lists.groups.Goals as goal

pub returns-then-is_sign_next : goal.returns-then-is_sign_next
returns-then-is_sign_next c = passes itself angled groups Free Free Always NoLess _ _ _
    (λ x rest s. took_when groups angled (λ q. q) (angled_when _ c.if-is_sign_next.ensures) s)
    (λ e s. failed_when groups angled (λ q. q) (angled_when _ c.if-is_sign_next.ensures) s) c.angled.ensures

pub returns-else-is_sign_next : goal.returns-else-is_sign_next
returns-else-is_sign_next c = groups_none _ _ c.new.ensures c.if-is_sign_next.ensures
