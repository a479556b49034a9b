-- Words to say with what a program comes to.
use Rattle.std.specs.Prelude.{◌≡◌, ℕ, nat_eq, if◌then◌else◌, ℤ, List, [], ◌∷◌, ◌++◌, map, length, Option, None, Some}
use Rattle.std.specs.Fmt.{signed_decimal}
use Rattle.ae_tree.specs.Plain.{Code}
use Rattle.ae_semantics.specs.declared.report.Ending.{Ending}
use Rattle.ae_semantics.specs.declared.report.Piece.{Piece}
use Rattle.ae_semantics.specs.Observations.{Seen, Carried, Answer, Gave, Trapped, Spent}
use Rattle.ae_semantics.specs.Values.{OfInt}
use Rattle.ae_semantics.specs.Places.{Bound}
use Rattle.ae_tree.specs.declared.form.Form.TheVariants as f
use Rattle.ae_semantics.specs.Means.{Meant, mean}

-- a number as it is printed
abbrev pub line : ℤ → List ℕ
line n = signed_decimal n ++ (10 ∷ [])

abbrev pub printed : Meant → List (List ℕ)
printed m = map (λ (x : Piece). x.bytes) m.log

-- the meaning with these integers, this fuel and these observations ends so, after these pieces, with so many
-- observations used
pub record Comes (p : Code) (ints : List ℤ) (fuel : ℕ) (seen : List Seen) (end : Ending) (pieces : List (List ℕ))
    (count : ℕ) : Type 0 where
  pub ending : (mean p ints fuel seen).ending ≡ Some end
  pub out : printed (mean p ints fuel seen) ≡ pieces
  pub used : length (mean p ints fuel seen).used ≡ count

-- it has no ending, for want of an observation that fits
pub record Waits (p : Code) (ints : List ℤ) (fuel : ℕ) (seen : List Seen) (pieces : List (List ℕ))
    (count : ℕ) : Type 0 where
  pub ending : (mean p ints fuel seen).ending ≡ None
  pub out : printed (mean p ints fuel seen) ≡ pieces
  pub used : length (mean p ints fuel seen).used ≡ count

-- nothing comes out of a block
abbrev pub nothing_out : Carried
nothing_out = record { locals = λ x. None; stores = λ g. None; pieces = None }

-- pieces come out of a block
abbrev pub pieces_out : List Piece → Carried
pieces_out pieces = record { locals = λ x. None; stores = λ g. None; pieces = Some pieces }

-- one number comes out of a block
abbrev pub number_out : ℕ → ℤ → Carried
number_out y n = record {
  locals = λ x. if nat_eq y x then Some
      (record { form = f.Int; value = OfInt n }) else None;
  stores = λ g. None;
  pieces = None;
}

-- the local that an answer carries
abbrev pub gave_local : Option Answer → ℕ → Option Bound
gave_local None x = None
gave_local (Some (Gave out)) x = out.locals x
gave_local (Some (Trapped code at)) x = None
gave_local (Some (Spent at)) x = None
