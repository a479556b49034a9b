use Rattle.std.proofs.Common.{◌≡◌, map, rules}
use Rattle.ae_tree.specs.Form.{bare_names}
use Rattle.ae_tree.specs.Shown.{expression}
use Rattle.ae_judge.specs.Tabled.{code_of}
use Rattle.ae_acts.specs.Made.{moves_by}
use Rattle.ae_acts.proofs.GatherLemmas.{fields_move}
use Rattle.ae_acts.proofs.objects.moves_of.Goals as goal

pub returns-in_ok-note_moves-in-Some : goal.returns-in_ok-note_moves-in-Some
returns-in_ok-note_moves-in-Some c =
    let k = c.in-Some.found.class.now in
    let es = map expression c.args.args.now in
    let is : c.note_moves.new.moves.items ≡ moves_by k (bare_names c.args.groups.now) k.fields es = search rules in
    fields_move (code_of c.args.tabled.now) c.args.class c.args.groups.now es k c.note_moves.new.moves.items
    c.in-Some.ensures.0 is
