use Rattle.std.proofs.lemmas.Int.{to_z-of_z}
use Rattle.std.proofs.Common.{rules, w64, SFits, ap, sym, ◌∙◌, pos, length, List, ℤ}
use Rattle.ae_tree.specs.Plain.{Length}
use Rattle.ae_semantics.specs.Values.{OfInt}
use Rattle.ae_semantics.specs.Places.{Outcome, Fine, ◌>>=◌}
use Rattle.ae_semantics.specs.Expressions.{value}
use Rattle.ae_judge.specs.Tabled.{code_of}
use Rattle.ae_reads.specs.Answers.{state_seen}
use Rattle.ae_reads.specs.Sights.{array_in}
use Rattle.ae_reads.specs.Views.{place_at}
use Rattle.ae_reads.proofs.ReadLemmas.{length_of_array}
use Rattle.ae_reads.proofs.WalkLemmas.{faults_go_on, faults_equal}
use Rattle.ae_reads.proofs.values.length.Goals as goal

pub returns-in-Ok : goal.returns-in-Ok
returns-in-Ok c =
    let w = c.in_ok-place.ensures in
    let fits : SFits w64 c.count.result = search rules in
    length_of_array (code_of c.args.tabled.now) (state_seen c.args.env.now) c.args.path.now c.args.at
    (place_at w.0 c.in_ok-place.place) w.1
    ∙ ap (λ (o : Outcome (List ℤ)). o >>= λ ns. Fine (OfInt (pos (length ns)))) (c.in-Ok.ensures w.0)
    ∙ ap (λ (n : ℤ). Fine (OfInt n)) (sym c.count.ensures ∙ sym (to_z-of_z w64 c.count.result fits))

pub returns : goal.returns
returns c =
    let w = c.in_ok-place.ensures in
    let p = code_of c.args.tabled.now in
    let s = state_seen c.args.env.now in
    let x = c.in_ok-place.place in
    faults_equal (value p s (Length c.args.path.now c.args.at))
    (array_in p s (place_at w.0 x) >>= λ ns. Fine (OfInt (pos (length ns)))) c.in-Err.stop
    (length_of_array p s c.args.path.now c.args.at (place_at w.0 x) w.1)
    (faults_go_on (array_in p s (place_at w.0 x)) (λ ns. Fine (OfInt (pos (length ns)))) c.in-Err.stop
    (c.in-Err.ensures w.0))
