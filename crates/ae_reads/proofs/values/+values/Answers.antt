use Rattle.std.proofs.Common.{ap, ◌∙◌, subst, rules, List, ℤ, w64, SFits}
use Rattle.std.proofs.lemmas.Int.{to_z-of_z}
use Rattle.ae_tree.specs.Plain.{Item}
use Rattle.ae_tree.specs.Shown.{expression}
use Rattle.ae_semantics.specs.Values.{OfInt}
use Rattle.ae_semantics.specs.Places.{Outcome, ◌>>=◌}
use Rattle.ae_semantics.specs.Expressions.{value}
use Rattle.ae_judge.specs.Tabled.{code_of}
use Rattle.ae_reads.specs.Answers.{ReadsAs, state_seen}
use Rattle.ae_reads.specs.Sights.{array_in, item_of, seen_value}
use Rattle.ae_reads.specs.Views.{place_at}
use Rattle.ae_reads.proofs.OpenLemmas.{answers_equal}
use Rattle.ae_reads.proofs.ReadLemmas.{item_of_array}
use Rattle.ae_reads.proofs.WalkLemmas.{faults_go_on, faults_equal}
use Rattle.ae_reads.proofs.values.+values.Goals as goal

pub item_at-returns-in-Ok : goal.item_at-returns-in-Ok
item_at-returns-in-Ok t c =
    let w = c.in_ok-place.ensures in
    let fits : SFits w64 c.in_ok-n.n = search rules in
    answers_equal _ _ OfInt c.item.result
    (item_of_array (code_of c.args.tabled.now) (state_seen c.args.env.now) c.args.path.now (expression c.args.index.now)
    (place_at w.0 c.in_ok-place.place) (seen_value c.in_ok-found.found) c.in_ok-n.n w.1 c.in_ok-found.ensures
    c.in_ok-n.ensures
    ∙ ap (λ (o : Outcome (List ℤ)). o >>= λ ns. item_of ns c.in_ok-n.n) (c.in-Ok.ensures w.0))
    (subst (λ (m : ℤ). ReadsAs (item_of c.in-Ok.items.now m) OfInt c.item.result)
    (to_z-of_z w64 c.in_ok-n.n fits) c.item.ensures)

pub item_at-returns : goal.item_at-returns
item_at-returns t c =
    let w = c.in_ok-place.ensures in
    let p = code_of c.args.tabled.now in
    let s = state_seen c.args.env.now in
    let x = c.in_ok-place.place in
    faults_equal (value p s (Item c.args.path.now (expression c.args.index.now)))
    (array_in p s (place_at w.0 x) >>= λ ns. item_of ns c.in_ok-n.n) c.in-Err.stop
    (item_of_array p s c.args.path.now (expression c.args.index.now) (place_at w.0 x) (seen_value c.in_ok-found.found)
    c.in_ok-n.n w.1 c.in_ok-found.ensures c.in_ok-n.ensures)
    (faults_go_on (array_in p s (place_at w.0 x)) (λ ns. item_of ns c.in_ok-n.n) c.in-Err.stop
    (c.in-Err.ensures w.0))
