-- A stack of locals as a function from names, and the table by name against it.
use Rattle.std.specs.Prelude.{◌≡◌, ◌↔◌, ℕ, zero, suc, nat_eq, Bool, true, ◌&&◌, if◌then◌else◌, List, [], ◌∷◌, map}
use Rattle.std.specs.Prelude.{Option, None, Some, slice_get, slice_index_or}
use Rattle.ae_rules.specs.declared.held.Held.{Held}
use Rattle.ae_rules.specs.declared.held.Held.TheVariants as held
use Rattle.ae_rules.specs.Context.{Local, same_held}
use Rattle.ae_scope.specs.declared.slot.Slot.{Slot}
use Rattle.ae_scope.specs.declared.slot.Change.{Change}

abbrev pub names : List Slot → List ℕ
names xs = map (λ (s : Slot). s.name) xs

-- where a name stands in the stack, by the table
abbrev pub place_in : List (Option ℕ) → ℕ → Option ℕ
place_in at x = slice_index_or at x None

-- the table says exactly where each name stands
abbrev pub Tied : List (Option ℕ) → List ℕ → Type 0
Tied at ns = (x i : ℕ) → (place_in at x ≡ Some i) ↔ (slice_get ns i ≡ Some x)

abbrev pub local_of : Slot → Local
local_of s = record { form = s.form; held = s.held; stays = s.stays }

-- the local with this name
abbrev pub local_in : List Slot → ℕ → Option Local
local_in [] x = None
local_in (s ∷ xs) x = if nat_eq s.name x then Some (local_of s) else local_in xs x

-- the local at this place holds another thing
abbrev pub hold_at : List Slot → ℕ → Held → List Slot
hold_at [] i h = []
hold_at (s ∷ xs) zero h = record s { held = h } ∷ xs
hold_at (s ∷ xs) (suc i) h = s ∷ hold_at xs i h

-- the changes are undone, the last one first
abbrev pub rewound : List Change → List Slot → List Slot
rewound [] xs = xs
rewound (c ∷ cs) xs = hold_at (rewound cs xs) c.slot c.held

-- what is held of the local at this place
abbrev pub held_at : List Slot → ℕ → Held
held_at [] i = held.None
held_at (s ∷ xs) zero = s.held
held_at (s ∷ xs) (suc i) = held_at xs i

-- what is held now where something was changed
abbrev pub now_held : List Change → List Slot → List Change
now_held cs xs = map (λ (c : Change). record { slot = c.slot; held = held_at xs c.slot }) cs

-- these are held
abbrev pub all_same : List Change → List Slot → Bool
all_same [] xs = true
all_same (c ∷ cs) xs = same_held c.held (held_at xs c.slot) && all_same cs xs

-- these are held again, the first one first
abbrev pub replayed : List Change → List Slot → List Slot
replayed [] xs = xs
replayed (c ∷ cs) xs = replayed cs (hold_at xs c.slot c.held)
