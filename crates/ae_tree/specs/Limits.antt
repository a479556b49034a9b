-- The limits of a program: statements in a block, blocks in one another, tokens in an expression, parameters of a method.
use Rattle.std.specs.Prelude.{◌≤◌, ◌<◌, ℕ, ◌+◌, ◌-◌, List, length, Option, None, Some, All}
use Rattle.ae_tree.specs.declared.limits.Limit.{Limit}
use Rattle.ae_tree.specs.declared.limits.Limit.TheVariants as limit
use Rattle.ae_tree.specs.declared.tree.Me.{Me}
use Rattle.ae_tree.specs.Plain.{Expression, Number, Truth, Nothing, Read, Item, Length, Grouped, Negated, Minus}
use Rattle.ae_tree.specs.Plain.{Binary, RightSide, Value, Taken, Zeros, Made, Returned, Lines, End, Next, Definition}
use Rattle.ae_tree.specs.Plain.{Code}
use Rattle.ae_tree.specs.Plain.{Action, Declares, Assigns, Stores, StoresAt, Calls, Chooses, ChoosesElse, Repeats}
use Rattle.ae_tree.specs.Plain.{Groups, Splits, Locks, Freezes, Shares, Prints, PrintsText, Asserts, Returns}

-- how many tokens of an expression count: operators, `(`, `[`, `.` and `len`
abbrev pub marks : Expression → ℕ
marks (Number n at) = 0
marks (Truth b at) = 0
marks (Nothing at) = 0
marks (Read p) = length p.steps
marks (Item p e) = length p.steps + 1 + marks e
marks (Length p at) = 1 + length p.steps
marks (Grouped e at) = 1 + marks e
marks (Negated e at) = 1 + marks e
marks (Minus e at) = 1 + marks e
marks (Binary op a b) = marks a + 1 + marks b

-- at most 256 tokens of an expression count
abbrev pub KeepsDepth : Limit → Expression → Type 0
KeepsDepth limit.Depth e = marks e ≤ 256
KeepsDepth l e = Unit {0}

abbrev pub AllKeepDepth : Limit → List Expression → Type 0
AllKeepDepth l = All (KeepsDepth l)

-- each argument is an expression of its own; paths outside expressions do not count
abbrev pub KeepsRight : Limit → RightSide → Type 0
KeepsRight l (Value e) = KeepsDepth l e
KeepsRight l (Taken p at) = Unit {0}
KeepsRight l (Zeros e at) = KeepsDepth l e
KeepsRight l (Made c groups args at) = AllKeepDepth l args
KeepsRight l (Returned c) = AllKeepDepth l c.args

-- how many statements
abbrev pub statement_count : Lines → ℕ
statement_count End = 0
statement_count (Next at a rest) = statement_count rest + 1

-- at most 1,024 statements stand in a block
abbrev pub IsFew : Limit → Lines → Type 0
IsFew limit.Statements b = statement_count b ≤ 1024
IsFew l b = Unit {0}

-- where n blocks may be opened in one another, one may
abbrev pub Opens : Limit → ℕ → Type 0
Opens limit.Levels n = 0 < n
Opens l n = Unit {0}

abbrev mutual
  -- a statement in which n blocks may be opened in one another
  pub KeepsIn : Limit → ℕ → Action → Type 0
  KeepsIn l n (Declares t x e) = KeepsRight l e
  KeepsIn l n (Assigns x e) = KeepsRight l e
  KeepsIn l n (Stores p e) = KeepsDepth l e
  KeepsIn l n (StoresAt p i e) = KeepsDepth l i × KeepsDepth l e
  KeepsIn l n (Calls c) = AllKeepDepth l c.args
  KeepsIn l n (Chooses e k b) = KeepsDepth l e × Opens l n × IsFew l b × EachKeeps l (n - 1) b
  KeepsIn l n (ChoosesElse e k b m c) = KeepsDepth l e × Opens l n × (IsFew l b × EachKeeps l (n - 1) b) × IsFew l c
      × EachKeeps l (n - 1) c
  KeepsIn l n (Repeats e k b) = KeepsDepth l e × Opens l n × IsFew l b × EachKeeps l (n - 1) b
  KeepsIn l n (Groups g) = Unit {0}
  KeepsIn l n (Splits gs k b) = Opens l n × IsFew l b × EachKeeps l (n - 1) b
  KeepsIn l n (Locks g k b) = Opens l n × IsFew l b × EachKeeps l (n - 1) b
  KeepsIn l n (Freezes x) = Unit {0}
  KeepsIn l n (Shares x g) = Unit {0}
  KeepsIn l n (Prints e) = KeepsDepth l e
  KeepsIn l n (PrintsText s) = Unit {0}
  KeepsIn l n (Asserts e) = KeepsDepth l e
  KeepsIn l n (Returns e) = KeepsDepth l e

  -- statements in which n blocks may be opened in one another
  pub EachKeeps : Limit → ℕ → Lines → Type 0
  EachKeeps l n End = Unit {0}
  EachKeeps l n (Next at a rest) = KeepsIn l n a × EachKeeps l n rest

-- a block in which n more may be opened in one another
abbrev pub KeepsBlock : Limit → ℕ → Lines → Type 0
KeepsBlock l n b = IsFew l b × EachKeeps l n b

abbrev pub one_for : Option Me → ℕ
one_for None = 0
one_for (Some m) = 1

-- at most 16 parameters, with the receiver
abbrev pub HasFewParams : Limit → Definition → Type 0
HasFewParams limit.Params m = one_for m.me + length m.params ≤ 16
HasFewParams l m = Unit {0}

-- a method keeps to a limit; its body is the first of 64 blocks in one another
abbrev pub KeepsMethod : Limit → Definition → Type 0
KeepsMethod l m = HasFewParams l m × KeepsBlock l 63 m.body

abbrev pub KeepsTo : Limit → Code → Type 0
KeepsTo l p = All (KeepsMethod l) p.methods

-- Two limits are decided before the token that is refused for them: a statement with a block that is too deep
-- begins before the block is opened, and a comma stands before a parameter. What stands before such a token
-- keeps to the others.
abbrev pub early : Limit → Limit
early limit.Levels = limit.Depth
early limit.Params = limit.Depth
early l = l

-- within all limits, but for the depth of blocks and the number of parameters
abbrev pub IsNearlyInLimits : Code → Type 0
IsNearlyInLimits p = (l : Limit) → KeepsTo (early l) p

-- a program keeps to all limits
abbrev pub Within : Code → Type 0
Within p = (l : Limit) → KeepsTo l p

-- Which of two limits is named where a token passes both: the one with the lower rank.
abbrev pub rank : Limit → ℕ
rank limit.Statements = 0
rank limit.Depth = 1
rank limit.Params = 2
rank limit.Levels = 3

-- a program keeps to the limits that are named before this one
abbrev pub KeepsBefore : Limit → Code → Type 0
KeepsBefore l p = (m : Limit) → rank m < rank l → KeepsTo m p
