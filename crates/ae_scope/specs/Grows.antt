-- A scope that came from another one by statements: what it adds can be taken back.
use Rattle.std.specs.Prelude.{◌≡◌, ℕ, length, take, drop}
use Rattle.ae_rules.specs.Context.{Context}
use Rattle.ae_groups.specs.Contexts.{known_groups}
use Rattle.ae_scope.specs.declared.scope.Scope.{Scope}
use Rattle.ae_scope.specs.declared.slot.Mark.{Mark}
use Rattle.ae_scope.specs.Slots.{local_in, rewound}
use Rattle.ae_scope.specs.Trail.{groups_before}

-- The later changes undone and the later locals dropped, the stack is as before; and the later changes of groups undone, the groups are.
pub record Grows (s t : Scope) : Type 0 where
  pub trail : take (length s.trail.items) t.trail.items ≡ s.trail.items
  pub back : take (length s.locals.items) (rewound (drop (length s.trail.items) t.trail.items) t.locals.items)
      ≡ s.locals.items
  pub group_trail : take (length s.group_trail.items) t.group_trail.items ≡ s.group_trail.items
  pub groups : groups_before (drop (length s.group_trail.items) t.group_trail.items) t.groups.perms.items
      ≡ s.groups.perms.items
  pub table : length t.at.items ≡ length s.at.items

-- What a block's end leaves: only the first of the locals stay, and the later changes of groups are undone.
pub record Ends (mark : Mark) (t u : Scope) : Type 0 where
  pub locals : u.locals.items ≡ take mark.locals t.locals.items
  pub groups : u.groups.perms.items ≡ groups_before (drop mark.groups t.group_trail.items) t.groups.perms.items
  pub group_trail : u.group_trail.items ≡ take mark.groups t.group_trail.items
  pub trail : u.trail.items ≡ t.trail.items
  pub table : length u.at.items ≡ length t.at.items

-- the mark of a scope: how many locals, changes of what is held, and changes of groups there are
pub record Marks (s : Scope) (mark : Mark) : Type 0 where
  pub locals : mark.locals ≡ length s.locals.items
  pub changes : mark.changes ≡ length s.trail.items
  pub groups : mark.groups ≡ length s.group_trail.items

-- the context before these changes of what is held
abbrev pub before : ℕ → Scope → Context
before n s = record {
  local = local_in (rewound (drop n s.trail.items) s.locals.items);
  group =
      known_groups s.groups;
}
