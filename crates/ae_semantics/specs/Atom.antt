-- What an atomic block answers, and the meaning that goes on past what stopped.
use Rattle.ae_rules.specs.Edges.{Uses}
use Rattle.std.specs.Prelude.{ℕ, nat_eq, ℤ, true, if◌then◌else◌, List, [], ◌∷◌, ◌++◌, Option, None, Some, option_map, ⊤}
use Rattle.ae_tree.specs.Names.{io}
use Rattle.ae_tree.specs.Plain.{Lines, End, Next, Definition, Code}
use Rattle.ae_tree.specs.Plain.{Action, Locks}
use Rattle.ae_rules.specs.Verdict.{given, judged}
use Rattle.ae_rules.specs.Context.{Context}
use Rattle.ae_rules.specs.Statements.{while_locked, judge_statement}
use Rattle.ae_rules.specs.Lookups.{method_at}
use Rattle.ae_rules.specs.Blocks.{Scene, block_at, Opened, all_scenes}
use Rattle.ae_semantics.specs.Values.{Store}
use Rattle.ae_semantics.specs.Places.{Here, State, group_of, members}
use Rattle.ae_semantics.specs.declared.report.Ending.TheVariants.{Done, Trap, Fuel}
use Rattle.ae_semantics.specs.declared.report.Piece.{Piece}
use Rattle.ae_semantics.specs.Observations.{Image, OfStore, OfLog, Ask, Answer, Gave, Trapped, Spent, Seen, Query}
use Rattle.ae_semantics.specs.Observations.{Notes, Observer}
use Rattle.ae_semantics.specs.Runs.{Run, Went, Ends, Stops, Where, Machine, flowing}
use Rattle.ae_semantics.specs.Blocks.{else_uses, values_out}
use Rattle.ae_semantics.specs.Meaning.{block, below}
use Rattle.ae_semantics.specs.Means.{Asking, asks_in, source_machine, run, Meant, meant}

-- ---- where an atomic block stands

-- an atomic block: its group, and its statements with the context in which they begin
pub record Located : Type 0 where
  pub group : ℕ
  pub block : Scene

-- the atomic block of a statement in this context, with its number
abbrev pub lock_in : Definition → Action → Context → List (ℕ × Located)
lock_in m (Locks g n b) c = (n, record { group = g.name; block = block_at m b (while_locked g.name c) }) ∷ []
lock_in m _ c = []

-- the atomic blocks among the statements of a block, as far as the statements are judged
abbrev pub locks_among : Code → Definition → Lines → Context → List (ℕ × Located)
locks_among p m End c = []
locks_among p m (Next at a rest) c = lock_in m a c ++ judged (judge_statement p m at a c) [] (locks_among p m rest)

-- the atomic blocks among the statements of these blocks
abbrev pub locks_in_blocks : Code → Definition → List Opened → List (ℕ × Located)
locks_in_blocks p m [] = []
locks_in_blocks p m (x ∷ xs) = locks_among p m x.1.lines x.1.start ++ locks_in_blocks p m xs

-- all atomic blocks of a method, with their numbers
abbrev pub all_locks : Code → Definition → List (ℕ × Located)
all_locks p m = locks_in_blocks p m (all_scenes p m)

-- the first one with this number
abbrev pub lock_numbered : ℕ → List (ℕ × Located) → Option Located
lock_numbered n [] = None
lock_numbered n (x ∷ xs) = if nat_eq x.0 n then Some x.1 else lock_numbered n xs

-- the atomic block that asks
abbrev pub located : Code → Ask → Option Located
located p ask = given (method_at p ask.method) None (λ (m : Definition). lock_numbered ask.block (all_locks p m))

-- ---- what a block answers

-- an image of the other kind counts as an empty one of the right kind
abbrev pub store_in : Image → Store
store_in (OfStore st) = st
store_in (OfLog pieces) = []

-- an image as a log
abbrev pub log_in : Image → List Piece
log_in (OfStore st) = []
log_in (OfLog pieces) = pieces

-- the values in, and the block's own group
abbrev pub begins_with : ℕ → Ask → Image → State
begins_with g ask image = record {
  locals = ask.ins.locals;
  groups = λ h. if nat_eq g h then Some (Here (store_in image)) else option_map Here (ask.ins.stores h);
  result = None;
}

-- the notes with which an atomic block begins
abbrev pub begins_after : {W : Type 0} → ℕ → Image → W → Notes W
begins_after g image w = record { log = if nat_eq io g then log_in image else []; cell = None; marks = []; watch = w }

-- a block's answer, where it has one, what its group holds then, and what the blocks inside it asked
pub record Atomed : Type 0 where
  pub out : Option Answer
  pub image : Image
  pub asked : List Asking

-- what the group holds after the block
abbrev pub image_after : {W : Type 0} → ℕ → Image → State → Notes W → Image
image_after g image s n = if nat_eq io g then OfLog n.log else given (members (group_of s g)) image OfStore

-- a block that ends the run leaves the image as it was, and its pieces are lost
abbrev pub atomed : {W : Type 0} → Uses → ℕ → Image → State → Run W → Atomed
atomed u g image before (Went s n) =
    record {
      out = Some (Gave (values_out u before s n.log));
      image = image_after g image s n;
      asked = asks_in n.marks;
    }
atomed u g image before (Ends Done n) = record { out = None; image = image; asked = asks_in n.marks }
atomed u g image before (Ends (Trap code at) n) =
    record { out = Some (Trapped code at); image = image; asked = asks_in n.marks }
atomed u g image before (Ends (Fuel at) n) = record { out = Some (Spent at); image = image; asked = asks_in n.marks }
atomed u g image before (Stops n) = record { out = None; image = image; asked = asks_in n.marks }

-- where the asked block stands
abbrev pub block_here : Ask → Located → Where
block_here ask x = record {
  number = ask.method;
  method = x.block.method;
  depth = ask.depth;
  path = ask.path;
  context
      = x.block.start;
  inside = true;
}

-- the answer of a block that was located
abbrev pub atom_at : Code → Ask → Image → List Seen → Located → Atomed
atom_at p ask image inner x =
    let m : Machine (List Seen) = source_machine p in
    let before : State = begins_with x.group ask image in
    atomed (else_uses p x.group x.block) x.group image before
    (block m (below m ask.fuel) (block_here ask x) x.block.lines before (begins_after x.group image inner))

-- The statements of the asked block in source order, on the values in, on its group's image,
-- and on the answers of blocks inside it of groups that are away: there are none in a program whose atomic blocks are not nested.
unfoldable pub atom : Code → Ask → Image → List Seen → Atomed
atom p ask image inner = given (located p ask) (record { out = None; image = image; asked = [] })
    (atom_at p ask image inner)

-- ---- past what stopped

-- observations by what is asked for
abbrev pub by_query : {W : Type 0} → (Query → Option Seen) → Observer W
by_query table w q = option_map (λ x. (x, w)) (table q)

-- the machine that goes on past what stopped, by observations of what is asked
abbrev pub flow_machine : Code → (Query → Option Seen) → Machine ⊤
flow_machine p table = record { code = p; observer = by_query table; order = flowing p }

-- The meaning without the stop at the first ending. What ended is among its stops, in source order.
unfoldable pub part : Code → List ℤ → ℕ → (Query → Option Seen) → Meant
part p ints fuel table = meant (run (flow_machine p table) ints fuel tt)
