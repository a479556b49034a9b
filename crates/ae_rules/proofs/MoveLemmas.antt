-- Which name moves with an expression is told by its text.
use Rattle.std.proofs.Common.{◌≡◌}
use Rattle.std.specs.Prelude.{⊤}
use Rattle.ae_rules.specs.Verdict.{Verdict, Holds, Broken, ◌>>◌}
use Rattle.ae_rules.specs.Into.{fits, name_into}
use Rattle.ae_rules.specs.Laws.{MovesByItsText}

-- after a premise comes what stands after it
after_it : {A : Type 0} (v : Verdict ⊤) (x y : A) → (v >> Holds x) ≡ Holds y → y ≡ x
after_it (Holds t) x y e = cc
after_it (Broken rule at) x y e = absurd (cc)

pub moves_by_its_text : MovesByItsText
moves_by_its_text p c form e name h = after_it (fits p c form e) (name_into form e) name h
