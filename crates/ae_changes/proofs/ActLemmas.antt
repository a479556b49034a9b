-- A judged statement that has no block and calls no method changes only what it writes.
use Rattle.std.proofs.Common.{◌≡◌, refl, ap, ◌∙◌, ℕ, true, not}
use Rattle.std.proofs.Common.{Option}
use Rattle.std.specs.Prelude.{⊤}
use Rattle.ae_text.specs.declared.refusal.Spot.{Spot}
use Rattle.ae_text.specs.declared.refusal.Rule.TheVariants as rule
use Rattle.ae_tree.specs.declared.tree.Path.{Path}
use Rattle.ae_tree.specs.declared.form.Form.{Form}
use Rattle.ae_tree.specs.Plain.{Code}
use Rattle.ae_tree.specs.Plain.{RightSide, Value, Taken, Zeros, Made, Returned}
use Rattle.ae_rules.specs.declared.uses.Resource.TheVariants as resource
use Rattle.ae_rules.specs.Edges.{Uses}
use Rattle.ae_rules.specs.Verdict.{Holds, require}
use Rattle.ae_rules.specs.Forms.{is_object, is_unique}
use Rattle.ae_rules.specs.Paths.{is_call}
use Rattle.ae_rules.specs.Context.{Context}
use Rattle.ae_rules.specs.Walks.{Place, owner, walk, write_access, owner_write_access}
use Rattle.ae_rules.specs.Statements.{judge_take, judge_right}
use Rattle.ae_rules.specs.BlockLaws.{HoldsRight}
use Rattle.ae_rules.specs.Uses.{right_uses}
use Rattle.ae_rules.specs.Uses.{write_uses}
use Rattle.ae_semantics.specs.Values.{Val, Null}
use Rattle.ae_semantics.specs.Places.{Outcome, Fine, Traps, Lacks, ◌>>=◌, there, State}
use Rattle.ae_semantics.specs.Places.{ObjectField, slot, slot_in, reach, last_item}
use Rattle.ae_semantics.specs.Places.{write_field, met, field_place, field_value, bind, numbered_field}
use Rattle.ae_semantics.specs.Expressions.{value, number_of}
use Rattle.ae_semantics.specs.Observations.{Notes}
use Rattle.ae_semantics.specs.Runs.{outcome_given, Where, Machine, Below}
use Rattle.ae_semantics.specs.Calls.{without_moved}
use Rattle.ae_semantics.specs.Meaning.{each_value, zeros, take_from, made, right_moved, assigned, sets}
use Rattle.ae_soundness.specs.Fits.{FieldsHaveMembers, FitsContext}
use Rattle.ae_soundness.proofs.LastingLemmas.{Gives, next_gives, then_gives, Leaves, given_leaves}
use Rattle.ae_soundness.proofs.StandLemmas.{fine_first}
use Rattle.ae_changes.specs.Changes.{ChangesAsUsed}
use Rattle.ae_changes.proofs.from_rules.PathLemmas.{first_holds}
use Rattle.ae_changes.proofs.UsedLemmas.{IsWritten, Covers}
use Rattle.ae_changes.proofs.WriteLemmas.{BaseWritten, changes_nothing, moved_changes}
use Rattle.ae_changes.proofs.WriteLemmas.{bind_changes, write_changes}
use Rattle.ae_changes.proofs.BaseLemmas.{object_written, covers_base}
use Rattle.ae_changes.proofs.MovedLemmas.{covers_names, right_written}

-- what is given where a statement begins
pub record FitsRight (p : Code) (c : Context) (s : State) : Type 0 where
  pub members : FieldsHaveMembers p
  pub fits : FitsContext p c s
  pub right : HoldsRight c

-- ---- right sides

-- of the state of the two this holds
abbrev pub OfSecond : (State → Type 0) → Val × State → Type 0
OfSecond P y = P y.1

-- the path to the object that has a path's last field
record OwnerReached (p : Code) (s : State) (path : Path) (x : ObjectField) : Type 0 where
  pub is : reach p s (owner path) ≡ Fine x.object

owner_reached : (p : Code) (s : State) (path : Path) (x : ObjectField) → slot p s path ≡ Fine x
    → OwnerReached p s path x
owner_reached p s path x e =
    let a = fine_first (there (last_item path.steps)) (λ y. reach p s (owner path) >>= λ o. slot_in p o y) x e in
    let b = fine_first (reach p s (owner path)) (λ o. slot_in p o a.0) x a.2 in
    let d = fine_first (there (numbered_field p b.0.kind a.0.name))
    (λ d. Fine (record { object = b.0; part = d })) x b.2 in
    let same : record { object = b.0; part = d.0 } ≡ x = cc (d.2) in
    record { is = b.1 ∙ ap (λ (y : ObjectField). Fine y.object) same }

-- A field that may be written stands where it is written.
pub slot_written : (p : Code) (c : Context) (s : State) → FitsRight p c s → (path : Path) (x : ObjectField) (u : ⊤)
    → owner_write_access p c path ≡ Holds u → slot p s path ≡ Fine x
    → BaseWritten (write_uses p c (owner path)) x.object.at.base
slot_written p c s z path x u h e =
    let w = first_holds (walk p c (owner path)) (λ (from : Place). write_access c path.root.at from.held) u h in
    object_written p c s z.members z.fits z.right (owner path) w.0 x.object path.root.at u w.1 w.2
    (owner_reached p s path x e).is

-- What an outcome is found to be goes on.
pub found_gives : {A B : Type 0} (P : B → Type 0) (o : Outcome A) (next : A → Outcome B)
    → ((x : A) → o ≡ Fine x → Gives P (next x)) → Gives P (o >>= next)
found_gives P (Fine x) next k = k x refl
found_gives P (Traps code) next k = tt
found_gives P Lacks next k = tt

taken_changes : (p : Code) (c : Context) (u : Uses) (s : State) (x : ObjectField) → BaseWritten u x.object.at.base
    → Gives (OfSecond (ChangesAsUsed c u s)) (take_from p s x)
taken_changes p c u s x w = next_gives P (there (field_value x.object.tree x.part.number)) _
    (λ v. next_gives P (met p (field_place x.object x.part v)) _
    (λ place. then_gives (ChangesAsUsed c u s) P (write_field s x.object x.part.number Null)
    (λ t. Fine (place.value, t))
    (write_changes c u s s x.object.at.base _ Null w (changes_nothing c u s)) (λ t i. i)))
  where
    P : Val × State → Type 0
    P = OfSecond (ChangesAsUsed c u s)

take_changes : (p : Code) (c d : Context) (u : Uses) (s : State) (t : Form) (path : Path) (at : Spot) → FitsRight p c s
    → judge_right p c t (Taken path at) ≡ Holds d → Covers (write_uses p c (owner path)) u
    → Gives (OfSecond (ChangesAsUsed c u s)) (made p (Taken path at) s)
take_changes p c d u s t path at z h k =
    let a = first_holds (judge_take p c path at) _ d h in
    let w = first_holds (walk p c path) _ a.0 a.1 in
    let o = first_holds (require (is_object w.0.form) rule.TypeMismatch at) _ a.0 w.2 in
    let q = first_holds (require (is_unique w.0.form) rule.NeedsUnique at) _ a.0 o.2 in
    let g = first_holds (owner_write_access p c path) (λ _. Holds w.0.form) a.0 q.2 in
    found_gives (OfSecond (ChangesAsUsed c u s)) (slot p s path) (take_from p s)
    (λ x i. taken_changes p c u s x (covers_base (write_uses p c (owner path)) u x.object.at.base k
    (slot_written p c s z path x g.0 g.1 i)))

-- a judged right side that is no call changes only what it writes
made_changes : (p : Code) (c d : Context) (u : Uses) (s : State) (t : Form) (e : RightSide) → FitsRight p c s
    → not (is_call e) ≡ true → judge_right p c t e ≡ Holds d → Covers (right_uses p c t e) u
    → Gives (OfSecond (ChangesAsUsed c u s)) (made p e s)
made_changes p c d u s t (Value e) z o h k = next_gives (OfSecond (ChangesAsUsed c u s)) (value p s e)
    (λ v. Fine (v, s)) (λ v. changes_nothing c u s)
made_changes p c d u s t (Taken path at) z o h k = take_changes p c d u s t path at z h k
made_changes p c d u s t (Zeros e at) z o h k = next_gives (OfSecond (ChangesAsUsed c u s)) (number_of p s e)
    (λ n. zeros n >>= λ v. Fine (v, s))
    (λ n. next_gives (OfSecond (ChangesAsUsed c u s)) (zeros n) (λ v. Fine (v, s)) (λ v. changes_nothing c u s))
made_changes p c d u s t (Made x gs es at) z o h k = next_gives (OfSecond (ChangesAsUsed c u s)) (each_value p s es) _
    (λ vs. changes_nothing c u s)
made_changes p c d u s t (Returned i) z o h k = absurd (cc o)

-- ---- a local gets a value

-- A local that is written gets a value.
pub assigned_changes : {W : Type 0} (c : Context) (u : Uses) (s : State) (at : Spot) (x : ℕ) (t : Form) (v : Val)
    (y : State) (n : Notes W) → IsWritten u (resource.Local x) → ChangesAsUsed c u s y
    → Leaves (ChangesAsUsed c u s) (assigned at x t v y n)
assigned_changes c u s at x t v y n w h = given_leaves (ChangesAsUsed c u s) (ChangesAsUsed c u s) (bind x t v y) at n _
    (bind_changes c u s x t v y w h) (λ z i. i)

set_made : {W : Type 0} (p : Code) (c d : Context) (u : Uses) (s : State) (at : Spot) (x : ℕ) (t : Form)
    (e : RightSide) (n : Notes W) → FitsRight p c s → not (is_call e) ≡ true → judge_right p c t e ≡ Holds d
    → Covers (right_uses p c t e) u → IsWritten u (resource.Local x)
    → Leaves (ChangesAsUsed c u s) (outcome_given (made p e s) at n
    (λ r. assigned at x t r.0 (without_moved (right_moved p t e) r.1) n))
set_made p c d u s at x t e n z o h k w =
    given_leaves (OfSecond (ChangesAsUsed c u s)) (ChangesAsUsed c u s) (made p e s) at n
    (λ r. assigned at x t r.0 (without_moved (right_moved p t e) r.1) n)
    (made_changes p c d u s t e z o h k)
    (λ y i. assigned_changes c u s at x t y.0 (without_moved (right_moved p t e) y.1) n w
    (moved_changes c u s (right_moved p t e) y.1
    (covers_names (right_uses p c t e) u (right_moved p t e) k (right_written p c t e)) i))

-- A local gets the value of a judged right side that is no call.
pub set_changes : {W : Type 0} (m : Machine W) (below : Option (Below W)) (here : Where) (c d : Context) (u : Uses)
    (s : State) (at : Spot) (x : ℕ) (t : Form) (e : RightSide) (n : Notes W) → FitsRight m.code c s
    → not (is_call e) ≡ true → judge_right m.code c t e ≡ Holds d → Covers (right_uses m.code c t e) u
    → IsWritten u (resource.Local x) → Leaves (ChangesAsUsed c u s) (sets m below here at x t e s n)
set_changes m below here c d u s at x t (Value e) n z o h k w = set_made m.code c d u s at x t (Value e) n z o h k w
set_changes m below here c d u s at x t (Taken path y) n z o h k w =
    set_made m.code c d u s at x t (Taken path y) n z o h k w
set_changes m below here c d u s at x t (Zeros e y) n z o h k w = set_made m.code c d u s at x t (Zeros e y) n z o h k w
set_changes m below here c d u s at x t (Made y gs es q) n z o h k w =
    set_made m.code c d u s at x t (Made y gs es q) n z o h k w
set_changes m below here c d u s at x t (Returned i) n z o h k w = absurd (cc o)
