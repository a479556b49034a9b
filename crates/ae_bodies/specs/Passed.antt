-- What is there once judged statements were gone through: the context after them, their blocks, and what they use.
use Rattle.std.specs.Prelude.{◌≡◌, ℕ, false, List, ◌∷◌, [], ◌++◌, Option, Result, Ok, Err}
use Rattle.ae_text.specs.declared.refusal.Spot.{Spot}
use Rattle.ae_text.specs.declared.refusal.Deny.{Deny}
use Rattle.ae_text.specs.declared.refusal.Deny.TheVariants as deny
use Rattle.ae_tree.specs.Limits.{statement_count}
use Rattle.ae_tree.specs.Plain.{Action, Expression, Lines, Definition, Code}
use Rattle.ae_rules.specs.declared.uses.Resource.{Resource}
use Rattle.ae_rules.specs.declared.uses.Footprint.{Footprint}
use Rattle.ae_rules.specs.Edges.{Uses}
use Rattle.ae_rules.specs.Verdict.{Verdict, Holds}
use Rattle.ae_rules.specs.Context.{Context, closed}
use Rattle.ae_rules.specs.Statements.{judge_statement, judge_lines}
use Rattle.ae_rules.specs.Uses.{◌∪◌, outside, value_uses, statement_uses, lines_use, block_uses}
use Rattle.ae_rules.specs.Blocks.{Opened, block_at, scenes_in, scenes_among}
use Rattle.ae_uses.specs.declared.opened.OpenedBlock.{OpenedBlock}
use Rattle.ae_uses.specs.declared.used.Used.{Used}
use Rattle.ae_uses.specs.Footprint.{IsFootprintOf}
use Rattle.ae_uses.specs.Opened.{AreFootprints, AreOpenedFor}
use Rattle.ae_uses.specs.Outside.{without_group}
use Rattle.ae_uses.specs.Used.{Adds, used_as}

-- the verdict holds
abbrev pub IsHeld : {A : Type 0} → Verdict A → Type 0
IsHeld {A} v = (x : A) × (v ≡ Holds x)

-- What was gone through is so. It is never refused, and of want of memory nothing is said.
abbrev pub IsPassed : {B : Type 0} → (B → Type 0) → Result B Deny → Type 0
IsPassed P (Ok x) = P x
IsPassed P (Err (deny.Refused r)) = ⊥
IsPassed P (Err deny.Memory) = Unit {0}

-- these blocks are opened, behind those that were there
pub record Opens (p : Code) (xs : List Opened) (os qs : List OpenedBlock) : Type 0 where
  pub added : List OpenedBlock
  pub behind : qs ≡ os ++ added
  pub opened : AreOpenedFor p xs added

-- a footprint more of these uses, and they are used inside too
pub record HandsOn (u : Uses) (v w : Used) (fs gs : List Footprint) : Type 0 where
  pub footprint : Footprint
  pub behind : gs ≡ fs ++ footprint ∷ []
  pub exact : IsFootprintOf u footprint.uses
  pub uses : Adds v u w

-- a judged statement: the context after it, the blocks in it, and what it uses
pub record Passes (p : Code) (m : Definition) (at : Spot) (a : Action) (c d : Context) (os qs : List OpenedBlock)
    (u w : Used) : Type 0 where
  pub judged : judge_statement p m at a c ≡ Holds d
  pub opens : Opens p (scenes_in p m false a c) os qs
  pub uses : Adds u (statement_uses p m a c) w

-- the same of a statement of a block, whose uses are handed on to it
pub record PassesLine (p : Code) (m : Definition) (at : Spot) (a : Action) (c d : Context) (os qs : List OpenedBlock)
    (u w : Used) (fs gs : List Footprint) : Type 0 where
  pub judged : judge_statement p m at a c ≡ Holds d
  pub opens : Opens p (scenes_in p m false a c) os qs
  pub hands_on : HandsOn (statement_uses p m a c) u w fs gs

-- the statements of a block
pub record PassesLines (p : Code) (m : Definition) (b : Lines) (c d : Context) (os qs : List OpenedBlock) (u w : Used)
    (fs : List Footprint) : Type 0 where
  pub judged : judge_lines p m b c ≡ Holds d
  pub opens : Opens p (scenes_among p m false b c) os qs
  pub uses : Adds u (lines_use p m b c) w
  pub footprints : AreFootprints (block_uses p m b c) (statement_count b) fs

-- a block that begins in this context, and what its statements use
pub record PassesBlock (p : Code) (m : Definition) (n : ℕ) (b : Lines) (c d : Context) (os qs : List OpenedBlock)
    (w : Used) : Type 0 where
  pub judged : judge_lines p m b c ≡ Holds d
  pub opens : Opens p ((n, block_at m b c) ∷ scenes_among p m false b c) os qs
  pub uses : (r : Resource) → used_as w r ≡ lines_use p m b c r

-- A block and its end, with this context outside. What it uses counts as far as it is seen from there, but for a group
-- that may be left out.
pub record PassesInside (p : Code) (m : Definition) (n : ℕ) (b : Lines) (but : Option ℕ) (outer c d : Context)
    (os qs : List OpenedBlock) (u w : Used) : Type 0 where
  pub last : Context
  pub judged : judge_lines p m b c ≡ Holds last
  pub closes : d ≡ closed outer last
  pub opens : Opens p ((n, block_at m b c) ∷ scenes_among p m false b c) os qs
  pub uses : Adds u (without_group but (outside outer (lines_use p m b c))) w

-- a condition, and a block after which the context is as before
pub record PassesBranch (p : Code) (m : Definition) (n : ℕ) (b : Lines) (e : Expression) (c d : Context)
    (os qs : List OpenedBlock) (u w : Used) : Type 0 where
  pub back : d ≡ c
  pub opens : Opens p ((n, block_at m b c) ∷ scenes_among p m false b c) os qs
  pub uses : Adds u (value_uses p c e ∪ outside c (lines_use p m b c)) w
