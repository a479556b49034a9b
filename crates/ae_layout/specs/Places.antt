-- Programs without their places: two programs are the same but for places where they are one without them.
use Rattle.std.specs.Prelude.{map, Option, None, Some}
use Rattle.ae_text.specs.declared.refusal.Spot.{Spot}
use Rattle.ae_tree.specs.declared.tree.NameAt.{NameAt}
use Rattle.ae_tree.specs.declared.tree.PermAt.{PermAt}
use Rattle.ae_tree.specs.declared.tree.PermAt.TheVariants as perm
use Rattle.ae_tree.specs.declared.tree.KindAt.{KindAt}
use Rattle.ae_tree.specs.declared.tree.KindAt.TheVariants as kind
use Rattle.ae_tree.specs.declared.tree.Ty.{Ty}
use Rattle.ae_tree.specs.declared.tree.Ty.TheVariants as ty
use Rattle.ae_tree.specs.declared.tree.Path.{Path}
use Rattle.ae_tree.specs.declared.tree.Me.{Me}
use Rattle.ae_tree.specs.declared.tree.Param.{Param}
use Rattle.ae_tree.specs.declared.tree.GroupNeed.{GroupNeed}
use Rattle.ae_tree.specs.declared.tree.Field.{Field}
use Rattle.ae_tree.specs.declared.tree.Class.{Class}
use Rattle.ae_tree.specs.Plain.{Expression, Number, Truth, Nothing, Read, Item, Length, Grouped, Negated, Minus}
use Rattle.ae_tree.specs.Plain.{Binary, Invocation, RightSide, Value, Taken, Zeros, Made, Returned, Lines, End, Next}
use Rattle.ae_tree.specs.Plain.{Definition, Code}
use Rattle.ae_tree.specs.Plain.{Action, Declares, Assigns, Stores, StoresAt, Calls, Chooses, ChoosesElse, Repeats}
use Rattle.ae_tree.specs.Plain.{Groups, Splits, Locks, Freezes, Shares, Prints, PrintsText, Asserts, Returns}

-- the one place that stands for all
abbrev pub nowhere : Spot
nowhere = record { line = 0; col = 0 }

abbrev pub optional : {A : Type 0} → (A → A) → Option A → Option A
optional f None = None
optional f (Some x) = Some (f x)

abbrev pub unplaced_name : NameAt → NameAt
unplaced_name x = record { name = x.name; at = nowhere }

abbrev pub unplaced_permission : PermAt → PermAt
unplaced_permission (perm.Unique at) = perm.Unique nowhere
unplaced_permission (perm.Immutable at) = perm.Immutable nowhere
unplaced_permission (perm.Lent at) = perm.Lent nowhere
unplaced_permission (perm.Shared at g) = perm.Shared nowhere (unplaced_name g)

abbrev pub unplaced_kind : KindAt → KindAt
unplaced_kind (kind.Ints at) = kind.Ints nowhere
unplaced_kind (kind.Class x groups) = kind.Class (unplaced_name x) (map unplaced_name groups)

abbrev pub unplaced_type : Ty → Ty
unplaced_type (ty.Int at) = ty.Int nowhere
unplaced_type (ty.Bool at) = ty.Bool nowhere
unplaced_type (ty.Object p k) = ty.Object (unplaced_permission p) (unplaced_kind k)

abbrev pub unplaced_path : Path → Path
unplaced_path p = record { root = unplaced_name p.root; steps = map unplaced_name p.steps }

abbrev pub unplaced_expression : Expression → Expression
unplaced_expression (Number n at) = Number n nowhere
unplaced_expression (Truth b at) = Truth b nowhere
unplaced_expression (Nothing at) = Nothing nowhere
unplaced_expression (Read p) = Read (unplaced_path p)
unplaced_expression (Item p e) = Item (unplaced_path p) (unplaced_expression e)
unplaced_expression (Length p at) = Length (unplaced_path p) nowhere
unplaced_expression (Grouped e at) = Grouped (unplaced_expression e) nowhere
unplaced_expression (Negated e at) = Negated (unplaced_expression e) nowhere
unplaced_expression (Minus e at) = Minus (unplaced_expression e) nowhere
unplaced_expression (Binary o a b) = Binary o (unplaced_expression a) (unplaced_expression b)

abbrev pub unplaced_call : Invocation → Invocation
unplaced_call c = record {
  on = optional unplaced_path c.on;
  method = unplaced_name c.method;
  groups = map unplaced_name c.groups;
  args = map unplaced_expression c.args;
}

abbrev pub unplaced_right : RightSide → RightSide
unplaced_right (Value e) = Value (unplaced_expression e)
unplaced_right (Taken p at) = Taken (unplaced_path p) nowhere
unplaced_right (Zeros e at) = Zeros (unplaced_expression e) nowhere
unplaced_right (Made c groups args at) = Made (unplaced_name c) (map unplaced_name groups)
    (map unplaced_expression args) nowhere
unplaced_right (Returned c) = Returned (unplaced_call c)

abbrev mutual
  pub unplaced_action : Action → Action
  unplaced_action (Declares t x e) = Declares (unplaced_type t) (unplaced_name x) (unplaced_right e)
  unplaced_action (Assigns x e) = Assigns (unplaced_name x) (unplaced_right e)
  unplaced_action (Stores p e) = Stores (unplaced_path p) (unplaced_expression e)
  unplaced_action (StoresAt p i e) = StoresAt (unplaced_path p) (unplaced_expression i) (unplaced_expression e)
  unplaced_action (Calls c) = Calls (unplaced_call c)
  unplaced_action (Chooses e n b) = Chooses (unplaced_expression e) n (unplaced_lines b)
  unplaced_action (ChoosesElse e n b m c) = ChoosesElse (unplaced_expression e) n (unplaced_lines b) m
      (unplaced_lines c)
  unplaced_action (Repeats e n b) = Repeats (unplaced_expression e) n (unplaced_lines b)
  unplaced_action (Groups g) = Groups (unplaced_name g)
  unplaced_action (Splits gs n b) = Splits (map unplaced_name gs) n (unplaced_lines b)
  unplaced_action (Locks g n b) = Locks (unplaced_name g) n (unplaced_lines b)
  unplaced_action (Freezes x) = Freezes (unplaced_name x)
  unplaced_action (Shares x g) = Shares (unplaced_name x) (unplaced_name g)
  unplaced_action (Prints e) = Prints (unplaced_expression e)
  unplaced_action (PrintsText s) = PrintsText s
  unplaced_action (Asserts e) = Asserts (unplaced_expression e)
  unplaced_action (Returns e) = Returns (unplaced_expression e)

  pub unplaced_lines : Lines → Lines
  unplaced_lines End = End
  unplaced_lines (Next at a rest) = Next nowhere (unplaced_action a) (unplaced_lines rest)

-- where a mark stood, it stands nowhere
abbrev pub unplaced_away : Option Spot → Option Spot
unplaced_away = optional (λ at. nowhere)

abbrev pub unplaced_param : Param → Param
unplaced_param p = record { ty = unplaced_type p.ty; name = unplaced_name p.name; away = unplaced_away p.away }

abbrev pub unplaced_me : Me → Me
unplaced_me m = record { perm = unplaced_permission m.perm; at = nowhere; away = unplaced_away m.away }

abbrev pub unplaced_need : GroupNeed → GroupNeed
unplaced_need n = record { need = n.need; group = unplaced_name n.group }

abbrev pub unplaced_method : Definition → Definition
unplaced_method m = record {
  class = m.class;
  result = optional unplaced_type m.result;
  name = unplaced_name m.name;
  groups = map unplaced_name m.groups;
  me = optional unplaced_me m.me;
  params = map unplaced_param m.params;
  needs = map unplaced_need m.needs;
  no = m.no;
  body = unplaced_lines m.body;
}

abbrev pub unplaced_field : Field → Field
unplaced_field f = record { ty = unplaced_type f.ty; name = unplaced_name f.name }

abbrev pub unplaced_class : Class → Class
unplaced_class c = record {
  name = unplaced_name c.name;
  groups = map unplaced_name c.groups;
  fields = map unplaced_field c.fields;
  methods = c.methods;
}

-- a program with all its places set to one
abbrev pub unplaced : Code → Code
unplaced p = record {
  names = p.names;
  classes = map unplaced_class p.classes;
  methods = map unplaced_method p.methods;
  decls = p.decls;
}
