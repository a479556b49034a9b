use Rattle.std.proofs.Common.{arith, ◌+◌, ◌<◌, ◌≤◌, sym, ◌∙◌, refl}
use Rattle.std.specs.Vec.{vec_len}
use Rattle.ae_meaning.proofs.Names.{grown}
use Rattle.ae_meaning.proofs.locals.Locals.make_room.Goals as goal

pub returns-in_ok-resize-clause-same : goal.returns-in_ok-resize-clause-same
returns-in_ok-resize-clause-same c =
    let old = c.args.self.now.values in
    grown old.items c.resize.new.self.items (c.args.name + 1)
    (sym c.resize.new.self.ok.0 ∙ c.in_ok-resize.ensures.len) (omega (arith, old.ok.0))
    (λ k d l m. c.in_ok-resize.ensures.by_index.0 k d l (let n : k < vec_len old = omega (arith, old.ok.0, m) in n))
    (λ k d l m. let n : vec_len old ≤ k = omega (arith, old.ok.0, l) in c.in_ok-resize.ensures.by_index.1 k d refl n m)
