-- Which programs are accepted, and which rule another one breaks first.
use Rattle.std.specs.Prelude.{◌≡◌, ℕ, nat_eq, Bool, true, false, ◌&&◌, ◌||◌, not, if◌then◌else◌, List, find, Option}
use Rattle.std.specs.Prelude.{None, Some, is_none, option_map, ⊤}
use Rattle.ae_text.specs.declared.refusal.Spot.{Spot}
use Rattle.ae_text.specs.declared.refusal.Rule.{Rule}
use Rattle.ae_text.specs.declared.refusal.Rule.TheVariants as rule
use Rattle.ae_tree.specs.declared.tree.NameAt.{NameAt}
use Rattle.ae_tree.specs.declared.tree.Me.{Me}
use Rattle.ae_tree.specs.declared.tree.Param.{Param}
use Rattle.ae_tree.specs.declared.tree.Need.{Need}
use Rattle.ae_tree.specs.declared.tree.Need.TheVariants as need_of
use Rattle.ae_tree.specs.declared.tree.GroupNeed.{GroupNeed}
use Rattle.ae_tree.specs.declared.form.Form.{Form}
use Rattle.ae_tree.specs.Form.{form, bare_names}
use Rattle.ae_tree.specs.Names.{io, this}
use Rattle.ae_tree.specs.Plain.{Action, Returns, Lines, End, Next, Definition, Code}
use Rattle.ae_rules.specs.declared.held.GroupPerm.{GroupPerm}
use Rattle.ae_rules.specs.declared.held.GroupPerm.TheVariants as group
use Rattle.ae_rules.specs.Verdict.{Verdict, Holds, Broken, ◌>>=◌, ◌>>◌, fine, require, each, given, if_there}
use Rattle.ae_rules.specs.Forms.{is_object, is_unique}
use Rattle.ae_rules.specs.Lookups.{Names, groups_of, own_kind, has_name}
use Rattle.ae_rules.specs.Table.{table_verdict}
use Rattle.ae_rules.specs.Context.{Local, Context, held_of, held_in, is_held_alone}
use Rattle.ae_rules.specs.Calls.{me_form}
use Rattle.ae_rules.specs.Statements.{judge_statement, judge_lines, end_block}

-- ---- one statement

-- the statement of this method, at its place, is judged and leads from the one context to the other
abbrev pub Judges : Code → Definition → Spot → Action → Context → Context → Type 0
Judges p m at a before after = judge_statement p m at a before ≡ Holds after

-- the first premise of the statement that fails is this rule's, at this place
abbrev pub Breaks : Code → Definition → Spot → Action → Context → Rule → Spot → Type 0
Breaks p m at a before rule spot = judge_statement p m at a before ≡ Broken rule spot

-- ---- a method's start

-- an object parameter that comes back stays, but for a unique one
abbrev pub does_stay : Form → Option Spot → Bool
does_stay form away = is_object form && not (is_unique form) && is_none away

abbrev pub local_at_start : Form → Option Spot → Local
local_at_start form away = record { form = form; held = held_of form; stays = does_stay form away }

abbrev pub me_local : Code → Definition → Me → Local
me_local p m me = local_at_start (me_form p m me) me.away

abbrev pub param_local : Param → Local
param_local x = local_at_start (form x.ty) x.away

abbrev pub param_called : List Param → ℕ → Option Param
param_called xs y = find (λ (x : Param). nat_eq x.name.name y) xs

-- `this`, and the parameters
abbrev pub locals_at_start : Code → Definition → ℕ → Option Local
locals_at_start p m y = if nat_eq this y then option_map (me_local p m) m.me else option_map param_local
    (param_called m.params y)

abbrev pub permission_needed : Need → GroupPerm
permission_needed need_of.Exclusive = group.Exclusive
permission_needed need_of.Shared = group.Shared
permission_needed need_of.Protected = group.Protected

abbrev pub need_for : List GroupNeed → ℕ → Option GroupNeed
need_for ns g = find (λ (n : GroupNeed). nat_eq n.group.name g) ns

-- the groups that a method knows: its class's, its own, and `io`
abbrev pub knows : Code → Definition → Names
knows p m g = nat_eq io g || has_name (groups_of (own_kind p m.class)) g || has_name (bare_names m.groups) g

-- a known group has the permission of its need, or None
abbrev pub groups_at_start : Code → Definition → ℕ → Option GroupPerm
groups_at_start p m g = if knows p m g then Some
    (given (need_for m.needs g) group.None (λ (n : GroupNeed). permission_needed n.need)) else None

-- the context at a method's start
abbrev pub start : Code → Definition → Context
start p m = record { local = locals_at_start p m; group = groups_at_start p m }

-- ---- a method's end

abbrev pub is_return : Action → Bool
is_return (Returns e) = true
is_return _ = false

-- the last statement is a `return`
abbrev pub returns : Lines → Bool
returns End = false
returns (Next at a End) = is_return a
returns (Next at a (Next at' a' rest)) = returns (Next at' a' rest)

-- a unique parameter that comes back is held Unique
abbrev pub must_come_back : Context → NameAt → Form → Option Spot → Verdict ⊤
must_come_back c x form away =
    require (not (is_unique form && is_none away) || is_held_alone (held_in c x.name)) rule.NotReturned x.at

abbrev pub me_comes_back : Code → Definition → Context → Me → Verdict ⊤
me_comes_back p m c me = must_come_back c (record { name = this; at = me.at }) (me_form p m me) me.away

abbrev pub param_comes_back : Context → Param → Verdict ⊤
param_comes_back c x = must_come_back c x.name (form x.ty) x.away

-- a method that is not `void` ends with `return`, and what was lent uniquely comes back
abbrev pub end_method : Code → Definition → Context → Verdict ⊤
end_method p m c =
    require (is_none m.result || returns m.body) rule.ReturnMissing m.name.at >>
    if_there m.me (me_comes_back p m c) >>
    each (param_comes_back c) m.params

-- ---- methods and programs

-- a method's body, from its signature to its end
abbrev pub judge_method : Code → Definition → Verdict ⊤
judge_method p m =
    judge_lines p m m.body (start p m) >>= λ c.
    end_block p (start p m) m.body c >>= λ d.
    end_method p m d

-- the class table, and then the methods in source order
abbrev pub verdict : Code → Verdict ⊤
verdict p = table_verdict p >> each (judge_method p) p.methods

-- the class table holds, and each method is judged
abbrev pub Accepts : Code → Type 0
Accepts p = verdict p ≡ fine

-- the program breaks this rule first, there
abbrev pub FirstBroken : Code → Rule → Spot → Type 0
FirstBroken p rule spot = verdict p ≡ Broken rule spot
