-- Lists of lists.
use Rattle.std.proofs.Common.{◌≡◌, ℕ, ◌<◌, List, [], length, get_or, sym, subst, ◌∙◌, arith}
use Rattle.std.proofs.lemmas.List.{get_or_default}
use Rattle.ae_graph.specs.Graph.{Graph, AreSuccs, AreAllSuccs}

pub succs_at : (g : Graph) (ss : List (List ℕ)) (i : ℕ) (x : List ℕ) → AreAllSuccs g ss → i < length g
    → x ≡ get_or ss i x → AreSuccs g i x
succs_at g ss i x a h e =
    let w : i < length ss = omega (arith, a.0) in
    subst (λ (l : List ℕ). AreSuccs g i l) (sym (e ∙ get_or_default ss i x [] w)) (a.1 i h)
