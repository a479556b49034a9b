-- What a statement reads: from two states that agree on what it uses it goes alike, and leaves states that agree again.
-- How runs are put together keeps this; what is left is what each form of statement has to keep.
use Rattle.std.proofs.Common.{◌≡◌, ℕ, nat_eq, Bool, true, false}
use Rattle.std.specs.Prelude.{is_some}
use Rattle.ae_text.specs.declared.refusal.Spot.{Spot}
use Rattle.ae_rules.specs.declared.uses.Resource.{Resource}
use Rattle.ae_rules.specs.declared.uses.Resource.TheVariants as resource
use Rattle.ae_tree.specs.Names.{io}
use Rattle.ae_tree.specs.Plain.{Action, Code}
use Rattle.ae_rules.specs.Context.{Context}
use Rattle.ae_rules.specs.Uses.{is_seen, statement_uses}
use Rattle.ae_rules.specs.Judges.{Judges}
use Rattle.ae_semantics.specs.Places.{State, name_of, group_of}
use Rattle.ae_semantics.specs.Observations.{Notes}
use Rattle.ae_semantics.specs.Runs.{Where}
use Rattle.ae_semantics.proofs.Related.{Both}

-- what two states agree on, and the context that both fit
pub record Known : Type 0 where
  pub agreed : Resource → Bool
  pub context : Context

-- Notes alike: the observers, and where `logs` holds what there is of `io` too. Calls keep it as it is, so it is no part of a world.
pub record SameNotes {W : Type 0} (logs : Bool) (n m : Notes W) : Type 0 where
  pub log : logs ≡ true → n.log ≡ m.log
  pub cell : logs ≡ true → n.cell ≡ m.cell
  pub watch : n.watch ≡ m.watch

pub record Agree {W : Type 0} (fits : Context → State → Type 0) (logs : Bool) (k : Known) (x : Both W W) : Type 0 where
  pub locals : (y : ℕ) → k.agreed (resource.Local y) ≡ true → x.s.locals y ≡ x.t.locals y
  pub names : (g : ℕ) → k.agreed (resource.Group g) ≡ true → name_of x.s g ≡ name_of x.t g
  pub groups : (g : ℕ) → k.agreed (resource.Group g) ≡ true → group_of x.s g ≡ group_of x.t g
  pub result : x.s.result ≡ x.t.result
  pub notes : SameNotes logs x.n x.m
  pub first : fits k.context x.s
  pub second : fits k.context x.t

-- An accepted statement stands here, and all that it uses is agreed on. What its context does not see is agreed on too, so that one
-- set serves a whole method: names that a block declares are not seen where it begins, and have no value where it is left.
pub record Stands (p : Code) (logs : Bool) (k l : Known) (here : Where) (at : Spot) (a : Action) : Type 0 where
  pub begins : k.context ≡ here.context
  pub judged : Judges p here.method at a here.context l.context
  pub same : l.agreed ≡ k.agreed
  pub uses : (r : Resource) → is_some (statement_uses p here.method a here.context r) ≡ true → k.agreed r ≡ true
  pub logged : is_some (statement_uses p here.method a here.context (resource.Group io)) ≡ true → logs ≡ true
  pub unseen_locals : (y : ℕ) → is_seen here.context (resource.Local y) ≡ false → k.agreed (resource.Local y) ≡ true
  pub unseen_groups : (g : ℕ) → nat_eq io g ≡ false → is_seen here.context (resource.Group g) ≡ false
      → k.agreed (resource.Group g) ≡ true

-- ---- the first of what each form has to keep: tests
