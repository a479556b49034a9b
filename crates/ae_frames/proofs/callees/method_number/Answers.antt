use Rattle.std.proofs.Common.{Some, sym, ap, ◌∙◌}
use Rattle.ae_judge.specs.Tabled.{code_of}
use Rattle.ae_frames.proofs.from_calls.MemberLemmas.{fields_are_no_methods}
use Rattle.ae_frames.proofs.callees.method_number.Goals as goal

pub returns-in-Some-Field : goal.returns-in-Some-Field
returns-in-Some-Field c = fields_are_no_methods (code_of c.args.tabled.now) c.args.class.number c.args.name
    c.in-Some-Field.field-0-0 c.args.class.class.now c.args.tabled.now.holds c.requires
    (ap Some (sym c.in-Some-Field.field-0-is) ∙ c.in-Some-Field.ensures)
