-- A round worked out: two tasks with an edge from the first to the second, one cell, and two seats.
use Rattle.std.proofs.Common.{◌≡◌, refl, ap, sym, arith, ℕ, zero, suc, true, false, List, [], ◌∷◌, None, Some}
use Rattle.ae_text.specs.declared.refusal.Edge.{Edge}
use Rattle.ae_rounds.specs.Rounds.{Round, IsEdge, IsShape, Waiting, Running, Finished, Configuration, first}
use Rattle.ae_rounds.specs.Rounds.{RoundEvent, Begin, Finish, Take, Leave, Needs, Course, changed}

-- all tasks may run
abbrev two : Round
two = record { tasks = 2; may = λ t. true; edges = record { from = 0; to = 1 } ∷ []; cells = 1 }

-- ---- the events of one run, and where they lead

abbrev after : Configuration → List RoundEvent → Configuration
after c [] = c
after c (e ∷ es) = after (changed c e) es

abbrev half : List RoundEvent
half = Begin 0 0 ∷ Take 0 0 ∷ Leave 0 0 ∷ Finish 0 false ∷ []

abbrev whole : List RoundEvent
whole = Begin 0 0 ∷ Take 0 0 ∷ Leave 0 0 ∷ Finish 0 false ∷ Begin 1 1 ∷ Finish 1 false ∷ []

-- in between, seat 0 runs task 0 and holds the cell
first_runs : (after first (Begin 0 0 ∷ Take 0 0 ∷ [])).stage 0 ≡ Running
first_runs = refl

second_waits : (after first (Begin 0 0 ∷ Take 0 0 ∷ [])).stage 1 ≡ Waiting
second_waits = refl

seat_runs : (after first (Begin 0 0 ∷ Take 0 0 ∷ [])).runs 0 ≡ Some 0
seat_runs = refl

cell_held : (after first (Begin 0 0 ∷ Take 0 0 ∷ [])).held 0 ≡ true
cell_held = refl

-- in the end both tasks are finished, no seat runs one, and the cell is free
first_finished : (after first whole).stage 0 ≡ Finished
first_finished = refl

second_finished : (after first whole).stage 1 ≡ Finished
second_finished = refl

seats_rest : (after first whole).runs 1 ≡ None
seats_rest = refl

cell_free : (after first whole).held 0 ≡ false
cell_free = refl

-- ---- the edge

edge : IsEdge two 0 1
edge = (0, omega arith, refl)

one_edge : (t u : ℕ) → IsEdge two t u → (t ≡ 0) × (u ≡ 1)
one_edge t u (zero, l, e) = (sym (ap (λ (x : Edge). x.from) e), sym (ap (λ (x : Edge). x.to) e))
one_edge t u (suc k, l, e) = absurd (omega (arith, l))

is_shape : IsShape two
is_shape t u g = let e : (t ≡ 0) × (u ≡ 1) = one_edge t u g in (omega (arith, e.0, e.1), omega (arith, e.1))

-- ---- the run is one: what each event needs is there

begins : Needs two first (Begin 0 0)
begins = (refl, (omega arith, refl), refl, λ t g. absurd (omega (arith, (one_edge t 0 g).1)))

takes : Needs two (after first (Begin 0 0 ∷ [])) (Take 0 0)
takes = (((0, refl), refl), omega arith, refl)

leaves : Needs two (after first (Begin 0 0 ∷ Take 0 0 ∷ [])) (Leave 0 0)
leaves = refl

finishes : Needs two (after first (Begin 0 0 ∷ Take 0 0 ∷ Leave 0 0 ∷ [])) (Finish 0 false)
finishes = ((0, refl), refl)

goes_on : Needs two (after first half) (Begin 1 1)
goes_on = (refl, (omega arith, refl), refl, λ t g. ap (after first half).stage (one_edge t 1 g).0)

ends : Needs two (after first (Begin 0 0 ∷ Take 0 0 ∷ Leave 0 0 ∷ Finish 0 false ∷ Begin 1 1 ∷ [])) (Finish 1 false)
ends = ((1, refl), refl)

course : Course two first whole (after first whole)
course = (
  _,
  (begins, refl),
  (
    _,
    (takes, refl),
    (_, (leaves, refl), (_, (finishes, refl), (_, (goes_on, refl), (_, (ends, refl), refl)))),
  ),
)

-- ---- what may not happen

-- the second task may not begin before the first is finished
too_early : Needs two first (Begin 1 1) → ⊥
too_early n = clash (n.3 0 edge)
  where
    clash : Waiting ≡ Finished → ⊥
    clash e = cc

-- a cell that is held is not taken by another seat
held_cell : Needs two (after first (Begin 0 0 ∷ Take 0 0 ∷ [])) (Take 1 0) → ⊥
held_cell n = clash n.2
  where
    clash : true ≡ false → ⊥
    clash e = cc

-- a seat that holds a cell does not end its task
holds_still : Needs two (after first (Begin 0 0 ∷ Take 0 0 ∷ [])) (Finish 0 false) → ⊥
holds_still n = clash 0 n.1
  where
    clash : (k : ℕ) → Some k ≡ None → ⊥
    clash k e = cc
