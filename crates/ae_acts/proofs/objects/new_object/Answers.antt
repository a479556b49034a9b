use Rattle.std.proofs.Common.{◌≡◌, ◌∙◌, ap, sym, map, [], List}
use Rattle.ae_tree.specs.Shown.{expression}
use Rattle.ae_rules.specs.Verdict.{given}
use Rattle.ae_rules.specs.Lookups.{class_called}
use Rattle.ae_semantics.specs.Values.{Val, Owned, Object}
use Rattle.ae_semantics.specs.Places.{Outcome, ◌>>=◌, State, low}
use Rattle.ae_semantics.specs.Meaning.{fields_moved}
use Rattle.ae_values.specs.Shown.{shown, fields_shown}
use Rattle.ae_judge.specs.Tabled.{code_of}
use Rattle.ae_running.specs.Seen.{seen}
use Rattle.ae_acts.specs.Made.{names_there, moved_with, beside, object_low, new_low}
use Rattle.ae_acts.proofs.from_reads.OpenLemmas.{answers_equal}
use Rattle.ae_acts.proofs.GatherLemmas.{fields_are, reads_beside}
use Rattle.std.proofs.Common.{reverse}
use Rattle.ae_acts.proofs.objects.new_object.Goals as goal

pub returns-clause-done : goal.returns-clause-done
returns-clause-done c =
    let p = code_of c.args.tabled.now in
    let s = seen c.args.run.now in
    let t = seen c.gather.new.run in
    let x = c.args.class in
    let gs = c.args.groups.now in
    let es = map expression c.args.args.now in
    let all = c.in_ok-values.values.items in
    let names : names_there c.as_slice.result.now ≡ given (class_called p x) [] (fields_moved gs es) =
    ap names_there c.as_slice.ensures.value ∙ c.in_ok-moves.ensures in
    answers_equal (new_low p x gs es s)
    (low (Owned (Object x (fields_shown c.reverse.new.self.items))) >>= beside t) _ c.object_of.result
    (ap (λ ns. moved_with p es ns s >>= object_low x) (sym names)
    ∙ ap (λ (o : Outcome (List Val × State)). o >>= object_low x) c.in_ok-values.ensures.done
    ∙ ap (λ vs. low (Owned (Object x vs)) >>= beside t)
    (fields_are (reverse all) ∙ ap fields_shown (sym c.reverse.ensures.items)))
    (reads_beside (low (Owned (Object x (fields_shown c.reverse.new.self.items)))) t shown c.object_of.result
    c.object_of.ensures.value)
