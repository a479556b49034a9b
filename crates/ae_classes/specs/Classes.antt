-- What the maps of a class table have, one by one.
use Rattle.std.specs.Prelude.{◌≡◌, ℕ, nat_eq, Bool, false, List, length, slice_get, filter_map, find, map, Option, Some}
use Rattle.std.specs.Prelude.{option_map, position, ⊤}
use Rattle.indexmap.specs.IndexMap.{IndexMap, get}
use Rattle.ae_tree.specs.declared.tree.NameAt.{NameAt}
use Rattle.ae_tree.specs.declared.tree.Field.{Field}
use Rattle.ae_tree.specs.declared.tree.Class.{Class}
use Rattle.ae_tree.specs.declared.tree.Decl.{Decl}
use Rattle.ae_tree.specs.Plain.{Definition, Code}
use Rattle.ae_tree.specs.WellShaped.{class_in}
use Rattle.ae_rules.specs.declared.table.Member.{Member}
use Rattle.ae_rules.specs.declared.table.Member.TheVariants as member
use Rattle.ae_rules.specs.Verdict.{given}
use Rattle.ae_rules.specs.Lookups.{class_at, method_at, class_number, top_number, top_in, is_called, member_called}
use Rattle.ae_rules.specs.Table.{Declared}
use Rattle.ae_classes.specs.declared.tops.TopNames.{TopNames}
use Rattle.ae_classes.specs.Named.{named_in}

-- a judgement of which only that it holds is told
abbrev pub passed : {A : Type 0} → A → ⊤
passed _ = tt

-- the map gives the number of each class by its name
abbrev pub GivesClasses : {S : Type 0} → IndexMap ℕ ℕ S → Code → Type 0
GivesClasses classes p = (x : ℕ) → get nat_eq classes x ≡ class_number p x

-- the map gives the number of each method at the top by its name
abbrev pub GivesTops : {S : Type 0} → IndexMap ℕ ℕ S → Code → Type 0
GivesTops tops p = (x : ℕ) → get nat_eq tops x ≡ top_number p x

-- the map gives what a class has under a name
abbrev pub GivesMembers : {S : Type 0} → IndexMap ℕ Member S → Code → Class → Type 0
GivesMembers members p c = (x : ℕ) → get nat_eq members x ≡ member_called p c x

-- the names of classes and of methods at the top
abbrev pub declared_in : TopNames → Declared
declared_in t = record { classes = named_in t.classes; tops = named_in t.tops }

-- the class with this number has this name
abbrev pub is_class_called : Code → ℕ → ℕ → Bool
is_class_called p x n = given (class_at p n) false (λ (c : Class). nat_eq c.name.name x)

-- the maps give what these declarations declare
pub record GivesDeclared (t : TopNames) (p : Code) (ds : List Decl) : Type 0 where
  pub classes : (x : ℕ) → get nat_eq t.classes x ≡ find (is_class_called p x) (filter_map class_in ds)
  pub tops : (x : ℕ) → get nat_eq t.tops x ≡ find (is_called p x) (filter_map top_in ds)

-- the names of fields
abbrev pub field_names : List Field → List NameAt
field_names ds = map (λ (d : Field). d.name) ds

-- the place of the first of these fields with this name
abbrev pub place_called : List Field → ℕ → Option ℕ
place_called ds x = position (λ (d : Field). nat_eq d.name.name x) ds

-- the first of these fields with this name, as a member
abbrev pub field_among : List Field → ℕ → Option Member
field_among ds x = option_map member.Field (place_called ds x)

-- the first of the methods with these numbers that has this name, as a member
abbrev pub method_among : Code → List ℕ → ℕ → Option Member
method_among p ns x = option_map member.Method (find (is_called p x) ns)

-- the names of the methods with these numbers
abbrev pub method_names : Code → List ℕ → List NameAt
method_names p ns = filter_map (λ n. option_map (λ (m : Definition). m.name) (method_at p n)) ns

-- for each class a map that gives its members
pub record GivesAllMembers {S : Type 0} (ms : List (IndexMap ℕ Member S)) (p : Code) : Type 0 where
  pub count : length ms ≡ length p.classes
  pub members : (n x : ℕ) (c : Class) → class_at p n ≡ Some c
      → option_map (λ m. get nat_eq m x) (slice_get ms n) ≡ Some (member_called p c x)
