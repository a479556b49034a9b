-- What is judged of a block, and what is compared after it.
use Rattle.std.specs.Prelude.{◌≡◌, ℕ, nat_lt, Bool, true, ◌&&◌, not, List, length, drop, ⊤}
use Rattle.std.specs.List.{list_any}
use Rattle.ae_text.specs.declared.refusal.Spot.{Spot}
use Rattle.ae_text.specs.declared.refusal.Rule.{Rule}
use Rattle.ae_text.specs.declared.refusal.Rule.TheVariants as rule
use Rattle.ae_tree.specs.declared.tree.NameAt.{NameAt}
use Rattle.ae_tree.specs.declared.form.Form.TheVariants as f
use Rattle.ae_tree.specs.Plain.{Expression, Lines, Definition, Code}
use Rattle.ae_rules.specs.declared.held.Held.TheVariants as held
use Rattle.ae_rules.specs.Verdict.{Verdict, Holds, ◌>>=◌, ◌>>◌, require}
use Rattle.ae_rules.specs.Lookups.{Names}
use Rattle.ae_rules.specs.Groups.{known}
use Rattle.ae_rules.specs.Context.{Context, same_held, hold_alike}
use Rattle.ae_rules.specs.Expressions.{is_value}
use Rattle.ae_rules.specs.Statements.{judge_lines, end_block, branches_meet}
use Rattle.ae_scope.specs.declared.scope.Scope.{Scope}
use Rattle.ae_scope.specs.declared.slot.Change.{Change}
use Rattle.ae_scope.specs.declared.slot.Mark.{Mark}
use Rattle.ae_scope.specs.Slots.{now_held}
use Rattle.ae_scope.specs.Scope.{context_of}
use Rattle.ae_scope.specs.Grows.{Grows, Marks, before}
use Rattle.ae_check.specs.Ready.{IsReady}

-- a block's statements from one context, and its end, with this context outside
abbrev pub inside_verdict : Code → Definition → Lines → Context → Context → Verdict Context
inside_verdict p m b outside c = judge_lines p m b c >>= end_block p outside b

-- a block and its end
abbrev pub block_verdict : Code → Definition → Lines → Context → Verdict Context
block_verdict p m b c = inside_verdict p m b c c

-- a block after which each local from outside holds the same as before
abbrev pub body_verdict : Code → Definition → Lines → Rule → Spot → Context → Verdict Context
body_verdict p m b rule at c = block_verdict p m b c >>= λ d. require (hold_alike p c d c) rule at >> Holds c

-- a block under a condition, after which each local from outside holds the same as before
abbrev pub tested_verdict : Code → Definition → Expression → Lines → Rule → Spot → Context → Verdict Context
tested_verdict p m e b rule at c = is_value p c f.Bool e >> body_verdict p m b rule at c

-- after these changes each local from before holds the same
abbrev pub keeps_held : Code → ℕ → Scope → Rule → Spot → Verdict Context
keeps_held p n s rule at = require (hold_alike p (before n s) (context_of s) (before n s)) rule at >> Holds (before n s)

-- two blocks from one context, after which each local from outside holds the same
abbrev pub choice_verdict : Code → Definition → Lines → Lines → Spot → Context → Verdict Context
choice_verdict p m b b' at c =
    block_verdict p m b c >>= λ d.
    block_verdict p m b' c >>= λ d'.
    branches_meet p c at d d'

-- a block began: where the mark was set, from the context outside, and its first statement has this scope
pub record Began (p : Code) (s : Scope) (mark : Mark) (t : Scope) : Type 0 where
  pub marks : Marks s mark
  pub grows : Grows s t
  pub ready : IsReady p (context_of s)
  pub knows : (g : ℕ) → known (context_of s).group g ≡ true → known (context_of t).group g ≡ true

-- a block ended: the locals are those from outside, and no change of a group is left
pub record Ended (s u : Scope) : Type 0 where
  pub grows : Grows s u
  pub locals : length u.locals.items ≡ length s.locals.items
  pub group_trail : u.group_trail.items ≡ s.group_trail.items

-- two branches of a choice were judged: the first from one scope, and the second from one that is as it was; what was
-- changed in the first was noted before it was taken back
pub record Branched (s u : Scope) (mark : Mark) (first : List Change) (w : Scope) : Type 0 where
  pub marks : Marks s mark
  pub first_ended : Ended s u
  pub noted : first ≡ now_held (drop mark.changes u.trail.items) u.locals.items
  pub second_ended : Ended s w

-- one of the first n locals holds what is shared in this group
abbrev pub shares_outside : ℕ → ℕ → Change → Bool
shares_outside n g x = nat_lt x.slot n && same_held (held.Shared g) x.held

-- a local from outside that changed since the mark holds what is shared in this group
abbrev pub left_outside : Mark → Scope → Names
left_outside mark s g =
    list_any (shares_outside mark.locals g) (now_held (drop mark.changes s.trail.items) s.locals.items)

-- a declared group is not one of those that are left
abbrev pub is_not_left : Names → NameAt → Verdict ⊤
is_not_left left g = require (not (left g.name)) rule.GroupEscapes g.at
