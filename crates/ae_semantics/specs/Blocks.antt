-- Blocks of groups that are split: what goes away and comes back, what an atomic block asks, and what its answer changes.
use Rattle.ae_rules.specs.Edges.{Uses}
use Rattle.std.specs.Prelude.{ℕ, nat_eq, Bool, true, false, ◌&&◌, ◌||◌, not, if◌then◌else◌, List, [], ◌∷◌, ◌++◌}
use Rattle.std.specs.Prelude.{Option, None, Some, is_some, option_map}
use Rattle.ae_text.specs.declared.refusal.Spot.{Spot}
use Rattle.ae_rules.specs.declared.uses.Resource.TheVariants as resource
use Rattle.ae_tree.specs.declared.tree.NameAt.{NameAt}
use Rattle.ae_tree.specs.declared.form.Form.{Form}
use Rattle.ae_tree.specs.Names.{io}
use Rattle.ae_tree.specs.Plain.{Code, Lines, Locks}
use Rattle.ae_tree.specs.declared.form.Perm.{Perm}
use Rattle.ae_tree.specs.declared.form.Perm.TheVariants as perm
use Rattle.ae_tree.specs.declared.form.Form.TheVariants as f
use Rattle.ae_rules.specs.declared.held.Held.{Held}
use Rattle.ae_rules.specs.declared.held.Held.TheVariants as held
use Rattle.ae_rules.specs.Verdict as rules
use Rattle.ae_rules.specs.Forms.{same_form}
use Rattle.ae_rules.specs.Context.{Local, Context, each_name}
use Rattle.ae_rules.specs.Uses.{outside, all_but, lines_use}
use Rattle.ae_rules.specs.Blocks.{Scene}
use Rattle.ae_semantics.specs.Values.{value_fits, is_low, all_low}
use Rattle.ae_semantics.specs.Places.{CellName, Group, Here, Away, Bound, State, group_of, with_store, members}
use Rattle.ae_semantics.specs.Contexts.{after, shuts_out}
use Rattle.ae_semantics.specs.declared.report.Ending.TheVariants.{Trap, Fuel}
use Rattle.ae_semantics.specs.declared.report.Piece.{Piece}
use Rattle.ae_semantics.specs.Observations.{Image, OfStore, OfLog, Carried, Ask, Answer, Gave, Trapped, Spent, Seen}
use Rattle.ae_semantics.specs.Observations.{OfBlock, OfCell, FromBlock, FromCell, Origin, AtBlock, AtEnd, Entered}
use Rattle.ae_semantics.specs.Observations.{Asked, Used, Notes}
use Rattle.ae_semantics.specs.Runs.{Run, Went, Ends, Stops, Act, and_then, marked, Where, locking, whole_block, Machine}

-- ---- split blocks

-- the cell of a group that a split block takes away
abbrev pub cell_of : Where → ℕ → CellName
cell_of here g = record { path = here.path; group = g }

-- what there is of a group: its members, or the log where it is `io`
abbrev pub image_of : {W : Type 0} → ℕ → State → Notes W → Option Image
image_of g s n = if nat_eq io g then Some (OfLog n.log) else option_map OfStore (members (group_of s g))

-- a group that holds this goes away into its cell
abbrev pub to_cell : {W : Type 0} → Where → ℕ → Image → Act W
to_cell here g image s n =
    let away : Notes _ = marked (Entered (cell_of here g) image) n in
    if nat_eq io g
    then Went s (record away { cell = Some (cell_of here g) })
    else Went (with_store g (Some (Away (cell_of here g))) s) away

-- a group goes away
abbrev pub goes_away : {W : Type 0} → Where → ℕ → Act W
goes_away here g s n = rules.given (image_of g s n) (Stops n) (λ image. to_cell here g image s n)

-- the groups of a split block go away, in written order
abbrev pub all_go_away : {W : Type 0} → Where → List NameAt → Act W
all_go_away here [] s n = Went s n
all_go_away here (g ∷ gs) s n = and_then (goes_away here g.name s n) (all_go_away here gs)

-- the members of a cell come back; where one of them is too high they do not fit
abbrev pub store_back : {W : Type 0} → ℕ → Image → Act W
store_back g (OfStore st) s n = if all_low st then Went (with_store g (Some (Here st)) s) n else Stops n
store_back g (OfLog pieces) s n = Stops n

-- the log of a cell comes back
abbrev pub log_back : {W : Type 0} → Image → Act W
log_back (OfStore st) s n = Stops n
log_back (OfLog pieces) s n = Went s (record n { log = pieces; cell = None })

-- an observation that does not fit is not used
abbrev pub unless_stopped : {W : Type 0} → Run W → Notes W → Run W
unless_stopped (Went s m) n = Went s m
unless_stopped (Ends ending m) n = Ends ending m
unless_stopped (Stops m) n = Stops n

-- an observation from here is used
abbrev pub used : {W : Type 0} → Origin → W → Notes W → Notes W
used from w n = record (marked (Used from) n) { watch = w }

-- what was observed of a cell comes back
abbrev pub cell_back : {W : Type 0} → Where → ℕ → Seen × W → Act W
cell_back here g (OfBlock a, w) s n = Stops n
cell_back here g (OfCell image, w) s n = unless_stopped
    (if nat_eq io g then log_back image s (used (FromCell (cell_of here g)) w n) else store_back g image s
    (used (FromCell (cell_of here g)) w n)) n

-- what is observed of a cell at its end comes back
abbrev pub cell_comes_back : {W : Type 0} → Machine W → Where → ℕ → Image → Act W
cell_comes_back m here g first s n = rules.given (m.observer n.watch (AtEnd (cell_of here g) first)) (Stops n)
    (λ seen. cell_back here g seen s n)

-- the groups come back in written order; what each held at first is told to the observer
abbrev pub all_come_back : {W : Type 0} → Machine W → Where → List NameAt → State → List Piece → Act W
all_come_back m here [] before log s n = Went s n
all_come_back m here (g ∷ gs) before log s n = and_then
    (rules.given (image_of g.name before (record n { log = log })) (Stops n)
    (λ first. cell_comes_back m here g.name first s n))
    (all_come_back m here gs before log)

-- ---- atomic blocks

-- the cell of a group that is away
abbrev pub cell_in : Option Group → Option CellName
cell_in (Some (Away c)) = Some c
cell_in _ = None

-- the cell of a group, or of `io`, that is away
abbrev pub cell_at : {W : Type 0} → ℕ → State → Notes W → Option CellName
cell_at g s n = if nat_eq io g then n.cell else cell_in (group_of s g)

-- what an atomic block of a group uses of all else
abbrev pub else_uses : Code → ℕ → Scene → Uses
else_uses p g b = all_but (resource.Group g) (outside b.start (lines_use p b.method b.lines b.start))

-- the values of what a block uses, without its own group and the log
abbrev pub values_in : Uses → State → Carried
values_in u s = record {
  locals = λ x. if is_some (u (resource.Local x)) then s.locals x else None;
  stores = λ g. if is_some (u (resource.Group g)) then members (group_of s g) else None;
  pieces = None;
}

-- a group's members come out where the block uses all of it, or uses it and they went in
abbrev pub store_out : Uses → State → ℕ → Bool
store_out u before g = not (nat_eq io g) &&
    (shuts_out (u (resource.Group g)) || (is_some (u (resource.Group g)) && is_some (members (group_of before g))))

-- the values of what a block changes, and the pieces that it appended where it uses `io` beside its own group
abbrev pub values_out : Uses → State → State → List Piece → Carried
values_out u before s pieces = record {
  locals = λ x. if shuts_out (u (resource.Local x)) then s.locals x else None;
  stores = λ g. if store_out u before g then members (group_of s g) else None;
  pieces = if shuts_out (u (resource.Group io)) then Some pieces else None;
}

-- both are there and pass the test, or neither is there
abbrev pub same_presence : {A B : Type 0} → Option A → Option B → (A → B → Bool) → Bool
same_presence None None test = true
same_presence None (Some y) test = false
same_presence (Some x) None test = false
same_presence (Some x) (Some y) test = test x y

-- a value has this form, fits it, and is not too high
abbrev pub fits_form : Code → Form → Bound → Bool
fits_form p form b = same_form form b.form && value_fits p form b.value && is_low b.value

-- the permission of an object of which this is held, where its name stands for it
abbrev pub perm_held : Held → Option Perm
perm_held held.Unique = Some perm.Unique
perm_held held.Immutable = Some perm.Immutable
perm_held held.Lent = Some perm.Lent
perm_held (held.Shared g) = Some (perm.Shared g)
perm_held _ = None

-- the form of what a local holds now, where it holds something
abbrev pub form_now : Form → Held → Option Form
form_now f.Int h = Some f.Int
form_now f.Bool h = Some f.Bool
form_now (f.Object q k) h = option_map (λ (r : Perm). f.Object r k) (perm_held h)

-- the form of what a local holds in this context, where it holds something
abbrev pub holds_now : Context → ℕ → Option Form
holds_now c x = rules.given (c.local x) None (λ (l : Local). form_now l.form l.held)

-- what is wanted of a local that comes out: the form of what it holds after the block, where it holds something
abbrev pub wanted : Uses → Context → ℕ → Option Form
wanted u later x = if shuts_out (u (resource.Local x)) then holds_now later x else None

-- what comes out under a name is what is wanted of it
abbrev pub name_fits : Code → Uses → Context → State → Carried → ℕ → Bool
name_fits p u later before out x = same_presence (wanted u later x) (out.locals x) (fits_form p)
    && (if store_out u before x then rules.given (out.stores x) false all_low else not (is_some (out.stores x)))

-- values out have the names and forms that the block's place asks for, and none of them is too high
abbrev pub out_fits : Code → Uses → Context → State → Carried → Bool
out_fits p u later before out =
    each_name p (name_fits p u later before out)
    && (if shuts_out (u (resource.Group io)) then is_some out.pieces else not (is_some out.pieces))

-- the values out take the places of what the block changes
abbrev pub with_values : Uses → Carried → State → State
with_values u out s = record s {
  locals = λ x. if shuts_out (u (resource.Local x)) then out.locals x else s.locals x;
  groups = λ g. if store_out u s g then option_map Here (out.stores g) else s.groups g;
}

-- the pieces, where there are any
abbrev pub pieces_in : Option (List Piece) → List Piece
pieces_in None = []
pieces_in (Some pieces) = pieces

-- the values out are taken over, and the pieces appended
abbrev pub with_out : {W : Type 0} → Uses → Carried → Act W
with_out u out s n = Went (with_values u out s) (record n { log = n.log ++ pieces_in out.pieces })

-- a block's answer, where it fits: values out, or the ending
abbrev pub answered : {W : Type 0} → Code → Uses → Context → Answer → Notes W → Act W
answered p u later (Gave out) unused s n = if out_fits p u later s out then with_out u out s n else Stops unused
answered p u later (Trapped code at) unused s n = Ends (Trap code at) n
answered p u later (Spent at) unused s n = Ends (Fuel at) n

-- what was observed of a block comes back
abbrev pub block_back : {W : Type 0} → Code → Uses → Context → Origin → Seen × W → Act W
block_back p u later from (OfCell image, w) s n = Stops n
block_back p u later from (OfBlock a, w) s n = answered p u later a n s (used from w n)

-- what an atomic block asks
abbrev pub ask_of : Where → ℕ → ℕ → Uses → State → Ask
ask_of here number fuel u s = record {
  path = here.path;
  method = here.number;
  block = number;
  fuel = fuel;
  depth = here.depth;
  ins = values_in u s;
}

-- the observer is asked, and the answer comes back
abbrev pub put_to : {W : Type 0} → Machine W → Ask → Uses → Context → Act W
put_to m ask u later s n = rules.given (m.observer n.watch (AtBlock ask)) (Stops n)
    (λ seen. block_back m.code u later (FromBlock ask.path) seen s n)

-- a block of a group that is away asks the observer
abbrev pub asks : {W : Type 0} → Machine W → Where → Spot → CellName → NameAt → ℕ → Lines → ℕ → Act W
asks m here at cell g number b fuel s n =
    let u : Uses = else_uses m.code g.name (whole_block b (locking g here)) in
    let ask : Ask = ask_of here number fuel u s in
    put_to m ask u (after m.code here.method at (Locks g number b) here.context) s (marked (Asked cell ask) n)
