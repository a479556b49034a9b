-- What was used so far, as a function from resources.
use Rattle.std.specs.Prelude.{◌≡◌, ℕ, if◌then◌else◌, List, Option, None, Some}
use Rattle.ae_rules.specs.declared.uses.Resource.{Resource}
use Rattle.ae_rules.specs.declared.uses.Resource.TheVariants as resource
use Rattle.ae_rules.specs.declared.uses.Mode.{Mode}
use Rattle.ae_rules.specs.declared.uses.Mode.TheVariants as mode
use Rattle.ae_rules.specs.Verdict.{Verdict, judged}
use Rattle.ae_rules.specs.Lookups.{has_name}
use Rattle.ae_rules.specs.Edges.{Uses, IsRising}
use Rattle.ae_rules.specs.Uses.{stronger}
use Rattle.ae_uses.specs.declared.used.Used.{Used}

-- a name of the second list is used in the strong mode, and one of the first alone in the weak mode
abbrev pub mode_of : Mode → Mode → List ℕ → List ℕ → ℕ → Option Mode
mode_of weak strong xs ys x = if has_name ys x then Some strong else (if has_name xs x then Some weak else None)

abbrev pub used_as : Used → Uses
used_as u (resource.Local x) = mode_of mode.Read mode.Write u.read.items u.written.items x
used_as u (resource.Group g) = mode_of mode.GroupShared mode.GroupWhole u.together.items u.whole.items g

-- what a verdict gives, where it holds
abbrev pub given_by : {A : Type 0} → Verdict A → Option A
given_by v = judged v None Some

-- these are used too
pub record Adds (u : Used) (v : Uses) (w : Used) : Type 0 where
  pub at : (r : Resource) → used_as w r ≡ stronger (used_as u r) (v r)

-- with what is used already, what is still to be used comes to the whole
pub record Owes (u : Used) (whole : Uses) (w : Used) (rest : Uses) : Type 0 where
  pub at : (r : Resource) → stronger (used_as u r) (whole r) ≡ stronger (used_as w r) (rest r)

-- each name stands once in each of the four lists, which rise
pub record IsCompact (u : Used) : Type 0 where
  pub read : IsRising u.read.items
  pub written : IsRising u.written.items
  pub together : IsRising u.together.items
  pub whole : IsRising u.whole.items
