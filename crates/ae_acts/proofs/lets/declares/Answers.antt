use Rattle.std.proofs.Common.{◌∙◌, ap, sym}
use Rattle.ae_tree.specs.Form.{form}
use Rattle.ae_tree.specs.Shown.{right_side}
use Rattle.ae_judge.specs.Tabled.{code_of}
use Rattle.ae_semantics.specs.Values.{Val}
use Rattle.ae_semantics.specs.Places.{Outcome, ◌>>=◌, State, bind}
use Rattle.ae_values.specs.Shown.{shown}
use Rattle.ae_running.specs.Seen.{seen}
use Rattle.ae_acts.specs.Acts.{put_into}
use Rattle.ae_acts.proofs.from_reads.OpenLemmas.{answers_equal}
use Rattle.ae_acts.proofs.ValueLemmas.{put_lowered}
use Rattle.ae_acts.proofs.lets.declares.Goals as goal

pub returns-clause-done : goal.returns-clause-done
returns-clause-done c =
    let p = code_of c.args.tabled.now in
    let s = seen c.args.run.now in
    let e = right_side c.args.rhs.now in
    let x = c.args.name in
    let target = c.in_ok-form.form in
    answers_equal (put_into p x (form c.args.ty.now) e s)
    (bind x target (shown c.in_ok-value.value) (seen c.right.new.run)) _ c.declare.result
    (ap (λ f. put_into p x f e s) (sym c.in_ok-form.ensures.form)
    ∙ put_lowered p s x target e
    ∙ ap (λ (o : Outcome (Val × State)). o >>= λ (r : Val × State). bind x target r.0 r.1) c.in_ok-value.ensures.done)
    c.declare.ensures.done
