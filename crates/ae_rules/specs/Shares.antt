-- What can be taken of what is held, and what is held once a part is given back.
use Rattle.std.specs.Prelude.{◌≡◌, ℕ, nat_eq, nat_lt, ◌+◌, ◌-◌, ◌&&◌, if◌then◌else◌, Option, None, Some}
use Rattle.ae_tree.specs.declared.form.Perm.{Perm}
use Rattle.ae_tree.specs.declared.form.Perm.TheVariants as need
use Rattle.ae_rules.specs.declared.held.Held.{Held}
use Rattle.ae_rules.specs.declared.held.Held.TheVariants as held

-- the most parts that are lent at once
abbrev pub most_lent : ℕ
most_lent = 4294967295

-- the part that is taken, and what is left
abbrev pub Share : Type 0
Share = Held × Held

abbrev pub lend : Held → Option Share
lend rest = Some (held.Lent, rest)

-- one part more, where n are lent already
abbrev pub lend_more : ℕ → Option Share
lend_more n = if nat_lt 0 n && nat_lt n most_lent then lend (held.Split (n + 1)) else None

-- what taking a share that meets a need gives: the part, and what is left
abbrev pub splits : Held → Perm → Option Share
splits held.Unique need.Unique = Some (held.Unique, held.None)
splits held.Unique need.Lent = lend (held.Split 1)
splits (held.Split n) need.Lent = lend_more n
splits held.Immutable need.Lent = lend held.Immutable
splits held.Lent need.Lent = lend held.Lent
splits held.Immutable need.Immutable = Some (held.Immutable, held.Immutable)
splits (held.Shared g) (need.Shared h) = if nat_eq g h then Some (held.Shared g, held.Shared g) else None
splits _ _ = None

-- what is held once one of n lent parts is back; no part of none is
abbrev pub one_less : ℕ → Option Held
one_less n = if nat_eq n 0 then None else Some (if nat_eq n 1 then held.Unique else held.Split (n - 1))

-- what is held once a part comes back to what was left
abbrev pub joins : Held → Held → Option Held
joins held.None held.Unique = Some held.Unique
joins (held.Split n) held.Lent = one_less n
joins held.Immutable held.Lent = Some held.Immutable
joins held.Lent held.Lent = Some held.Lent
joins held.Immutable held.Immutable = Some held.Immutable
joins (held.Shared g) (held.Shared h) = if nat_eq g h then Some (held.Shared g) else None
joins _ _ = None

-- from what is held, the need takes this part and leaves that rest
abbrev pub Splits : Held → Perm → Held → Held → Type 0
Splits whole n part rest = splits whole n ≡ Some (part, rest)

-- the rest and the part make this whole
abbrev pub Joins : Held → Held → Held → Type 0
Joins rest part whole = joins rest part ≡ Some whole
