-- What is known of each context in which statements are judged.
use Rattle.std.specs.Prelude.{◌≡◌, ℕ, true, false, List, length, Some}
use Rattle.std.specs.List.{All}
use Rattle.ae_text.specs.declared.refusal.Spot.{Spot}
use Rattle.ae_tree.specs.declared.tree.NameAt.{NameAt}
use Rattle.ae_tree.specs.Plain.{Action, Lines, Definition, Code}
use Rattle.ae_tree.specs.WellShaped.{EachStatement, InBlocks, ActionNamed, WellShaped}
use Rattle.ae_rules.specs.declared.held.Held.TheVariants as held
use Rattle.ae_rules.specs.Verdict.{Holds, fine}
use Rattle.ae_rules.specs.Lookups.{method_at}
use Rattle.ae_rules.specs.Groups.{known, may_split_all, may_lock}
use Rattle.ae_rules.specs.Context.{Local, Context, held_of}
use Rattle.ae_rules.specs.Statements.{while_split, while_locked, judge_lines}
use Rattle.ae_rules.specs.BlockLaws.{IsRight, groups_in_lines}
use Rattle.ae_rules.specs.Judges.{start, Judges}
use Rattle.ae_rules.specs.Table.{TableHolds}

-- a statement, and those in its blocks, name only the first n names
abbrev pub StatementNamed : ℕ → Action → Type 0
StatementNamed n a = ActionNamed n a × InBlocks (ActionNamed n) a

-- and so do the statements of a block
abbrev pub LinesNamed : ℕ → Lines → Type 0
LinesNamed n b = EachStatement (ActionNamed n) b

-- the group of each local whose form is shared in one is known
abbrev pub FormsAreKnown : Context → Type 0
FormsAreKnown c = (x g : ℕ) (l : Local) → c.local x ≡ Some l → held_of l.form ≡ held.Shared g → known c.group g ≡ true

-- only names of the program are visible, of each local is held what may be, and the groups of forms are known
pub record IsReady (p : Code) (c : Context) : Type 0 where
  pub right : IsRight p c
  pub forms : FormsAreKnown c

-- a method begins so; judged statements whose names are the program's keep it, and split and atomic blocks begin so;
-- and a group that judged statements declare was not known before them
pub record StaysReady (p : Code) (m : Definition) : Type 0 where
  pub first : IsReady p (start p m)
  pub statement : (at : Spot) (a : Action) (c d : Context) → StatementNamed (length p.names) a → IsReady p c
      → Judges p m at a c d → IsReady p d
  pub split : (gs : List NameAt) (c : Context) → IsReady p c → may_split_all c.group gs ≡ fine
      → IsReady p (while_split gs c)
  pub lock : (g : NameAt) (c : Context) → IsReady p c → may_lock c.group g ≡ fine → IsReady p (while_locked g.name c)
  pub declared : (b : Lines) (c d : Context) → judge_lines p m b c ≡ Holds d
      → All (λ (g : NameAt). known c.group g.name ≡ false) (groups_in_lines b)

-- in each method of a well-shaped program whose declarations hold
abbrev pub JudgingStaysReady : Type 0
JudgingStaysReady = (p : Code) → WellShaped p → TableHolds p → (n : ℕ) (m : Definition) → method_at p n ≡ Some m
    → StaysReady p m
