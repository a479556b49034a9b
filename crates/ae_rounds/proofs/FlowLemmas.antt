-- Proofs of the laws of results.
use Rattle.std.proofs.Common.{◌≡◌, ◌<◌, inl, inr, refl, subst, arith, ℕ, zero, suc, Contains}
use Rattle.std.specs.Prelude.{slice_get}
use Rattle.ae_rounds.specs.Rounds.{IsEdge, IsWay}
use Rattle.ae_rounds.specs.Flow.{Work, Plan, TaskEnd, Finished, Stopped, Result, round_of, IsEnd, IsOutput, HasBegun}
use Rattle.ae_rounds.specs.Flow.{HasDrawn, stamps_in, Flow}
use Rattle.ae_rounds.specs.FlowLaws.{ChainsWentThrough, ChainsKeepTime}
use Rattle.ae_rounds.proofs.from_text.Basics.{option_holds_one}

way_went : {I C O B E : Type 0} (w : Work I C O B E) (p : Plan I E) (r : Result I O B E) (n f t : ℕ) (e : TaskEnd I O B)
    → Flow w p r → IsWay (round_of p) n f t → IsEnd r t e → HasBegun e → (o : O) × IsEnd r f (Finished o)
way_went w p r zero f t e h g i b = h.begun_passed t f e i b g
way_went w p r (suc n) f t e h (v, g, k) i b =
    let m = way_went w p r n v t e h k i b in
    h.begun_passed v f (Finished m.0) m.1 tt g

pub chains_went_through : {I C O B E : Type 0} (w : Work I C O B E) → ChainsWentThrough w
chains_went_through w p r f t e h k i b = way_went w p r k.0 f t e h k.1 i b

-- an output is what became of a task that has begun
pub output_end : {I O B E : Type 0} (r : Result I O B E) (t : ℕ) (o : O) → IsOutput r t o
    → (e : TaskEnd I O B) × IsEnd r t e × HasBegun e
output_end r t o (inl i) = (Finished o, i, tt)
output_end r t o (inr i) = (Stopped o, i, tt)

-- the stamps of an output that went through have the end of it
ended_in : {I C O B E : Type 0} (w : Work I C O B E) (p : Plan I E) (r : Result I O B E) (t : ℕ) (o : O)
    → Flow w p r → IsEnd r t (Finished o) → Contains (w.output_stamps o) (w.ended o)
ended_in w p r t o h i =
    let d : HasDrawn w p r t (w.ended o) = h.ended_drawn t o (inl i) in
    subst (λ e. Contains (stamps_in w e) (w.ended o)) (option_holds_one (slice_get r.tasks t) d.2 (Finished o) d.4 i)
    d.6

edge_in_time : {I C O B E : Type 0} (w : Work I C O B E) (p : Plan I E) (r : Result I O B E) (f t : ℕ) (o q : O)
    → Flow w p r → IsEdge (round_of p) f t → IsEnd r f (Finished o) → IsOutput r t q → w.ended o < w.began q
edge_in_time w p r f t o q h g i j = h.above f t (w.began q) (w.ended o) o g (h.began_drawn t q j) i
    (ended_in w p r f o h i)

way_in_time : {I C O B E : Type 0} (w : Work I C O B E) (p : Plan I E) (r : Result I O B E) (n f t : ℕ) (o q : O)
    → Flow w p r → IsWay (round_of p) n f t → IsEnd r f (Finished o) → IsOutput r t q → w.ended o < w.began q
way_in_time w p r zero f t o q h g i j = edge_in_time w p r f t o q h g i j
way_in_time {I} {C} {O} {B} {E} w p r (suc n) f t o q h (v, g, k) i j =
    let e = output_end r t q j in
    let m : (x : O) × IsEnd r v (Finished x) = way_went w p r n v t e.0 h k e.1 e.2 in
    omega (
      arith,
      edge_in_time w p r f v o m.0 h g i (inl m.1),
      h.began_before v m.0 (inl m.1),
      way_in_time w p r n v t m.0 q h k m.1 j,
    )

same_finished : {I O B : Type 0} (x y : O) (e d : TaskEnd I O B) → e ≡ Finished x → d ≡ Finished y → e ≡ d → x ≡ y
same_finished x y e d p q g = cc

not_both : {I O B : Type 0} (x y : O) (e d : TaskEnd I O B) → e ≡ Finished x → d ≡ Stopped y → e ≡ d → ⊥
not_both x y e d p q g = cc

same_output : {I O B E : Type 0} (r : Result I O B E) (f : ℕ) (o : O) → IsOutput r f o
    → (m : (x : O) × IsEnd r f (Finished x)) → m.0 ≡ o
same_output r f o (inl y) m = same_finished m.0 o (Finished m.0) (Finished o) refl refl
    (option_holds_one (slice_get r.tasks f) (Finished m.0) (Finished o) m.1 y)
same_output r f o (inr y) m = absurd
    (not_both m.0 o (Finished m.0) (Stopped o) refl refl
    (option_holds_one (slice_get r.tasks f) (Finished m.0) (Stopped o) m.1 y))

pub chains_keep_time : {I C O B E : Type 0} (w : Work I C O B E) → ChainsKeepTime w
chains_keep_time {I} {C} {O} {B} {E} w p r f t o q h k i j =
    let e = output_end r t q j in
    let m : (x : O) × IsEnd r f (Finished x) = way_went w p r k.0 f t e.0 h k.1 e.1 e.2 in
    subst (λ (x : O). w.ended x < w.began q) (same_output r f o i m) (way_in_time w p r k.0 f t m.0 q h k.1 m.1 j)
