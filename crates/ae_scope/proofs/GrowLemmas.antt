-- Scopes that grow.
use Rattle.std.proofs.Common.{◌≡◌, ℕ, ◌<◌, ◌≤◌, zero, suc, ◌++◌, ◌∷◌, [], List, length, take, drop, get_or}
use Rattle.std.proofs.Common.{set, Option, None, refl, sym, ap, ◌∙◌, arith}
use Rattle.std.proofs.Math.Seq.{drop-length, take-length, drop-append_seam}
use Rattle.std.proofs.lemmas.List.{drop-append-le, take-append-le, take-append-drop, length-take}
use Rattle.ae_rules.specs.declared.held.Held.{Held}
use Rattle.ae_rules.specs.declared.held.GroupPerm.{GroupPerm}
use Rattle.ae_scope.specs.declared.slot.Slot.{Slot}
use Rattle.ae_scope.specs.declared.slot.Change.{Change}
use Rattle.ae_scope.specs.declared.slot.GroupChange.{GroupChange}
use Rattle.ae_scope.specs.declared.scope.Scope.{Scope}
use Rattle.ae_scope.specs.Slots.{hold_at, rewound}
use Rattle.ae_scope.specs.Trail.{groups_before}
use Rattle.ae_scope.specs.Grows.{Grows}
use Rattle.ae_scope.proofs.ChangeLemmas.{take_rewound, rewound_append}
use Rattle.ae_scope.proofs.TrailLemmas.{groups_back_append, back_from_noted}

-- the changes of groups and the groups are the same
pub groups_stayed : (s t : Scope) → t.groups.perms.items ≡ s.groups.perms.items
    → t.group_trail.items ≡ s.group_trail.items
    → groups_before (drop (length s.group_trail.items) t.group_trail.items) t.groups.perms.items ≡ s.groups.perms.items
groups_stayed s t g k =
    ap (λ (cs : List GroupChange). groups_before (drop (length s.group_trail.items) cs) t.groups.perms.items) k
    ∙ ap (λ (cs : List GroupChange). groups_before cs t.groups.perms.items) (drop-length s.group_trail.items) ∙ g

-- and so is the trail
trail_stayed : (s t : Scope) → t.group_trail.items ≡ s.group_trail.items
    → take (length s.group_trail.items) t.group_trail.items ≡ s.group_trail.items
trail_stayed s t k = ap (take (length s.group_trail.items)) k ∙ take-length s.group_trail.items

-- a scope grows out of itself
pub grows_same : (s : Scope) → Grows s s
grows_same s = record {
  trail = take-length s.trail.items;
  back = ap (λ (cs : List Change). take (length s.locals.items) (rewound cs s.locals.items))
      (drop-length s.trail.items) ∙ take-length s.locals.items;
  group_trail = trail_stayed s s refl;
  groups = groups_stayed s s refl refl;
  table = refl;
}

-- a local more
pub grows_declared : (s t : Scope) (r : Slot) → t.locals.items ≡ s.locals.items ++ r ∷ []
    → t.trail.items ≡ s.trail.items → t.groups.perms.items ≡ s.groups.perms.items
    → t.group_trail.items ≡ s.group_trail.items → length t.at.items ≡ length s.at.items → Grows s t
grows_declared s t r l e g k a = record {
  trail = ap (take (length s.trail.items)) e ∙ take-length s.trail.items;
  back = ap (λ (cs : List Change). take (length s.locals.items)
      (rewound (drop (length s.trail.items) cs) t.locals.items)) e
      ∙ ap (λ (cs : List Change). take (length s.locals.items) (rewound cs t.locals.items)) (drop-length s.trail.items)
      ∙ ap (take (length s.locals.items)) l ∙ take-append-le (length s.locals.items) s.locals.items (r ∷ [])
      (omega arith) ∙ take-length s.locals.items;
  group_trail = trail_stayed s t k;
  groups = groups_stayed s t g k;
  table = a;
}

-- held again what was held before
held_back : (xs : List Slot) (i : ℕ) (h : Held) (r : Slot) → i < length xs → r ≡ get_or xs i r
    → hold_at (hold_at xs i h) i r.held ≡ xs
held_back [] i h r l e = refl
held_back (x ∷ xs) zero h r l e = ap (λ (s : Slot). record x { held = s.held } ∷ xs) e
held_back (x ∷ xs) (suc i) h r l e = ap (λ (ys : List Slot). x ∷ ys) (held_back xs i h r (omega (arith, l)) e)

-- another thing held of a local
pub grows_held : (s t : Scope) (i : ℕ) (h : Held) (r : Slot) → i < length s.locals.items
    → r ≡ get_or s.locals.items i r → t.locals.items ≡ hold_at s.locals.items i h
    → t.trail.items ≡ s.trail.items ++ record { slot = i; held = r.held } ∷ []
    → t.groups.perms.items ≡ s.groups.perms.items → t.group_trail.items ≡ s.group_trail.items
    → length t.at.items ≡ length s.at.items → Grows s t
grows_held s t i h r w e l f g k a = record {
  trail = ap (take (length s.trail.items)) f ∙ take-append-le (length s.trail.items) s.trail.items _ (omega arith)
      ∙ take-length s.trail.items;
  back = ap (λ (cs : List Change). take (length s.locals.items)
      (rewound (drop (length s.trail.items) cs) t.locals.items)) f
      ∙ ap (λ (cs : List Change). take (length s.locals.items) (rewound cs t.locals.items))
      (drop-append_seam s.trail.items (record { slot = i; held = r.held } ∷ []))
      ∙ ap (λ (ys : List Slot). take (length s.locals.items) (hold_at ys i r.held)) l
      ∙ ap (take (length s.locals.items)) (held_back s.locals.items i h r w e) ∙ take-length s.locals.items;
  group_trail = trail_stayed s t k;
  groups = groups_stayed s t g k;
  table = a;
}

pub grows_equal : (s t : Scope) → t.locals.items ≡ s.locals.items → t.trail.items ≡ s.trail.items
    → t.groups.perms.items ≡ s.groups.perms.items → t.group_trail.items ≡ s.group_trail.items
    → length t.at.items ≡ length s.at.items → Grows s t
grows_equal s t l f g k a = record {
  trail = ap (take (length s.trail.items)) f ∙ take-length s.trail.items;
  back = ap (λ (cs : List Change). take (length s.locals.items)
      (rewound (drop (length s.trail.items) cs) t.locals.items)) f
      ∙ ap (λ (cs : List Change). take (length s.locals.items) (rewound cs t.locals.items)) (drop-length s.trail.items)
      ∙ ap (take (length s.locals.items)) l ∙ take-length s.locals.items;
  group_trail = trail_stayed s t k;
  groups = groups_stayed s t g k;
  table = a;
}

-- a group has another permission
pub grows_regrouped : (s t : Scope) (x : ℕ) (q : Option GroupPerm) → t.locals.items ≡ s.locals.items
    → t.trail.items ≡ s.trail.items
    → t.group_trail.items ≡ s.group_trail.items
    ++ record { name = x; before = get_or s.groups.perms.items x None } ∷ []
    → t.groups.perms.items ≡ set s.groups.perms.items x q → length t.at.items ≡ length s.at.items → Grows s t
grows_regrouped s t x q l f k g a = record {
  trail = ap (take (length s.trail.items)) f ∙ take-length s.trail.items;
  back = ap (λ (cs : List Change). take (length s.locals.items)
      (rewound (drop (length s.trail.items) cs) t.locals.items)) f
      ∙ ap (λ (cs : List Change). take (length s.locals.items) (rewound cs t.locals.items)) (drop-length s.trail.items)
      ∙ ap (take (length s.locals.items)) l ∙ take-length s.locals.items;
  group_trail = ap (take (length s.group_trail.items)) k
      ∙ take-append-le (length s.group_trail.items) s.group_trail.items _ (omega arith)
      ∙ take-length s.group_trail.items;
  groups = back_from_noted s.group_trail.items t.group_trail.items s.groups.perms.items t.groups.perms.items x q k g
      (length s.group_trail.items) (omega arith)
      ∙ ap (λ (cs : List GroupChange). groups_before cs s.groups.perms.items) (drop-length s.group_trail.items);
  table = a;
}

-- first the one, then the other
drop_both : {A : Type 0} (m : ℕ) (ts us : List A) → take (length ts) us ≡ ts → m ≤ length ts
    → drop m us ≡ drop m ts ++ drop (length ts) us
drop_both {A = A} m ts us e l = ap (drop m) (sym (take-append-drop (length ts) us)
    ∙ ap (λ (v : List A). v ++ drop (length ts) us) e) ∙ drop-append-le m ts (drop (length ts) us) l

take_both : {A : Type 0} (m : ℕ) (ts us : List A) → take (length ts) us ≡ ts → m ≤ length ts → take m us ≡ take m ts
take_both {A = A} m ts us e l = ap (take m) (sym (take-append-drop (length ts) us)
    ∙ ap (λ (v : List A). v ++ drop (length ts) us) e) ∙ take-append-le m ts (drop (length ts) us) l

pub grows_on : (s t u : Scope) → Grows s t → Grows t u → length s.locals.items ≤ length t.locals.items → Grows s u
grows_on s t u g h w =
    let l : length s.trail.items ≤ length t.trail.items =
    omega (arith, ap length g.trail, length-take (length s.trail.items) t.trail.items) in
    let k : length s.group_trail.items ≤ length t.group_trail.items =
    omega (arith, ap length g.group_trail, length-take (length s.group_trail.items) t.group_trail.items) in
    let n = length s.locals.items in
    let cs = drop (length s.trail.items) t.trail.items in
    let ds = drop (length t.trail.items) u.trail.items in
    record {
      trail = take_both (length s.trail.items) t.trail.items u.trail.items h.trail l ∙ g.trail;
      back = ap (λ (v : List Change). take n (rewound v u.locals.items))
          (drop_both (length s.trail.items) t.trail.items u.trail.items h.trail l)
          ∙ ap (take n) (rewound_append cs ds u.locals.items)
          ∙ take_rewound n cs (rewound ds u.locals.items)
          ∙ ap (rewound cs) (take_both n t.locals.items (rewound ds u.locals.items) h.back w)
          ∙ sym (take_rewound n cs t.locals.items) ∙ g.back;
      group_trail = take_both (length s.group_trail.items) t.group_trail.items u.group_trail.items h.group_trail k
          ∙ g.group_trail;
      groups = ap (λ (v : List GroupChange). groups_before v u.groups.perms.items)
          (drop_both (length s.group_trail.items) t.group_trail.items u.group_trail.items h.group_trail k)
          ∙ groups_back_append (drop (length s.group_trail.items) t.group_trail.items)
          (drop (length t.group_trail.items) u.group_trail.items) u.groups.perms.items
          ∙ ap (groups_before (drop (length s.group_trail.items) t.group_trail.items)) h.groups ∙ g.groups;
      table = h.table ∙ g.table;
    }
