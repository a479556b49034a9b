-- The shape of a grammatical program: what the grammar gives, said of the plain data alone.
use Rattle.std.specs.Prelude.{◌≡◌, ◌≢◌, ◌<◌, ◌⊎◌, ℕ, List, [], ◌∷◌, ◌++◌, length, Option, None, Some, is_some}
use Rattle.std.specs.Prelude.{slice_get, filter_map, nat_eq, All}
use Rattle.std.specs.List.{IsDistinct, flat_map}
use Rattle.std.specs.Str.{bytes_eq}
use Rattle.ae_text.specs.declared.token.Token.{Token}
use Rattle.ae_tree.specs.declared.tree.NameAt.{NameAt}
use Rattle.ae_tree.specs.declared.tree.PermAt.{PermAt}
use Rattle.ae_tree.specs.declared.tree.PermAt.TheVariants as perm_at
use Rattle.ae_tree.specs.declared.tree.KindAt.{KindAt}
use Rattle.ae_tree.specs.declared.tree.KindAt.TheVariants as kind_at
use Rattle.ae_tree.specs.declared.tree.Path.{Path}
use Rattle.ae_tree.specs.declared.tree.Ty.{Ty}
use Rattle.ae_tree.specs.declared.tree.Ty.TheVariants as ty
use Rattle.ae_tree.specs.declared.tree.Me.{Me}
use Rattle.ae_tree.specs.declared.tree.Param.{Param}
use Rattle.ae_tree.specs.declared.tree.Field.{Field}
use Rattle.ae_tree.specs.declared.tree.Class.{Class}
use Rattle.ae_tree.specs.declared.tree.GroupNeed.{GroupNeed}
use Rattle.ae_tree.specs.declared.tree.Decl.{Decl}
use Rattle.ae_tree.specs.declared.tree.Decl.TheVariants as decl
use Rattle.ae_tree.specs.Plain.{Expression, Number, Truth, Nothing, Read, Item, Length, Grouped, Negated, Minus}
use Rattle.ae_tree.specs.Plain.{Binary, Invocation, RightSide, Value, Taken, Zeros, Made, Returned, Lines, End, Next}
use Rattle.ae_tree.specs.Plain.{Definition, Code}
use Rattle.ae_tree.specs.Plain.{Action, Declares, Assigns, Stores, StoresAt, Calls, Chooses, ChoosesElse, Repeats}
use Rattle.ae_tree.specs.Plain.{Groups, Splits, Locks, Freezes, Shares, Prints, PrintsText, Asserts, Returns}
use Rattle.ae_tree.specs.Names.{first_names}
use Rattle.ae_tree.specs.Grammar.{numbers_from, Derives}

-- ---- each statement

abbrev mutual
  -- each statement in the blocks of a statement has this
  pub InBlocks : (Action → Type 0) → Action → Type 0
  InBlocks P (Chooses e n b) = EachStatement P b
  InBlocks P (ChoosesElse e n b m c) = EachStatement P b × EachStatement P c
  InBlocks P (Repeats e n b) = EachStatement P b
  InBlocks P (Splits gs n b) = EachStatement P b
  InBlocks P (Locks g n b) = EachStatement P b
  InBlocks P _ = Unit {0}

  -- each statement of these lines, and of the blocks in them, has this
  pub EachStatement : (Action → Type 0) → Lines → Type 0
  EachStatement P End = Unit {0}
  EachStatement P (Next at a rest) = P a × InBlocks P a × EachStatement P rest

-- ---- names: those that occur are among the first n

-- a name is one of the first n
abbrev pub HasNumberBelow : ℕ → NameAt → Type 0
HasNumberBelow n x = x.name < n

-- and so is each of these
abbrev pub AreNamed : ℕ → List NameAt → Type 0
AreNamed n = All (HasNumberBelow n)

-- the root of a path, and its steps
abbrev pub PathNamed : ℕ → Path → Type 0
PathNamed n p = HasNumberBelow n p.root × AreNamed n p.steps

-- the group of a permission
abbrev pub PermNamed : ℕ → PermAt → Type 0
PermNamed n (perm_at.Unique at) = Unit {0}
PermNamed n (perm_at.Immutable at) = Unit {0}
PermNamed n (perm_at.Lent at) = Unit {0}
PermNamed n (perm_at.Shared at g) = HasNumberBelow n g

-- the class of a kind, and its groups
abbrev pub KindNamed : ℕ → KindAt → Type 0
KindNamed n (kind_at.Ints at) = Unit {0}
KindNamed n (kind_at.Class c gs) = HasNumberBelow n c × AreNamed n gs

-- the permission and the kind of a type
abbrev pub TypeNamed : ℕ → Ty → Type 0
TypeNamed n (ty.Int at) = Unit {0}
TypeNamed n (ty.Bool at) = Unit {0}
TypeNamed n (ty.Object q k) = PermNamed n q × KindNamed n k

-- where there is one, it has this
abbrev pub IfThere : {A : Type 0} → (A → Type 0) → Option A → Type 0
IfThere P None = Unit {0}
IfThere P (Some x) = P x

-- the paths of an expression
abbrev pub ExpressionNamed : ℕ → Expression → Type 0
ExpressionNamed n (Number i at) = Unit {0}
ExpressionNamed n (Truth b at) = Unit {0}
ExpressionNamed n (Nothing at) = Unit {0}
ExpressionNamed n (Read p) = PathNamed n p
ExpressionNamed n (Item p e) = PathNamed n p × ExpressionNamed n e
ExpressionNamed n (Length p at) = PathNamed n p
ExpressionNamed n (Grouped e at) = ExpressionNamed n e
ExpressionNamed n (Negated e at) = ExpressionNamed n e
ExpressionNamed n (Minus e at) = ExpressionNamed n e
ExpressionNamed n (Binary o a b) = ExpressionNamed n a × ExpressionNamed n b

-- a call: its receiver, its method, its groups and its arguments
abbrev pub CallNamed : ℕ → Invocation → Type 0
CallNamed n c = IfThere (PathNamed n) c.on × HasNumberBelow n c.method × AreNamed n c.groups
    × All (ExpressionNamed n) c.args

-- what stands right of a =
abbrev pub RightNamed : ℕ → RightSide → Type 0
RightNamed n (Value e) = ExpressionNamed n e
RightNamed n (Taken p at) = PathNamed n p
RightNamed n (Zeros e at) = ExpressionNamed n e
RightNamed n (Made c gs es at) = HasNumberBelow n c × AreNamed n gs × All (ExpressionNamed n) es
RightNamed n (Returned c) = CallNamed n c

-- a statement, without those in its blocks
abbrev pub ActionNamed : ℕ → Action → Type 0
ActionNamed n (Declares t x e) = TypeNamed n t × HasNumberBelow n x × RightNamed n e
ActionNamed n (Assigns x e) = HasNumberBelow n x × RightNamed n e
ActionNamed n (Stores p e) = PathNamed n p × ExpressionNamed n e
ActionNamed n (StoresAt p i e) = PathNamed n p × ExpressionNamed n i × ExpressionNamed n e
ActionNamed n (Calls c) = CallNamed n c
ActionNamed n (Chooses e k b) = ExpressionNamed n e
ActionNamed n (ChoosesElse e k b m c) = ExpressionNamed n e
ActionNamed n (Repeats e k b) = ExpressionNamed n e
ActionNamed n (Groups g) = HasNumberBelow n g
ActionNamed n (Splits gs k b) = AreNamed n gs
ActionNamed n (Locks g k b) = HasNumberBelow n g
ActionNamed n (Freezes x) = HasNumberBelow n x
ActionNamed n (Shares x g) = HasNumberBelow n x × HasNumberBelow n g
ActionNamed n (Prints e) = ExpressionNamed n e
ActionNamed n (PrintsText s) = Unit {0}
ActionNamed n (Asserts e) = ExpressionNamed n e
ActionNamed n (Returns e) = ExpressionNamed n e

-- a parameter: its type and its name
abbrev pub ParamNamed : ℕ → Param → Type 0
ParamNamed n x = TypeNamed n x.ty × HasNumberBelow n x.name

-- a method, from its result to the last statement of its body
pub record MethodNamed (n : ℕ) (m : Definition) : Type 0 where
  pub result : IfThere (TypeNamed n) m.result
  pub name : HasNumberBelow n m.name
  pub groups : AreNamed n m.groups
  pub me : IfThere (λ (x : Me). PermNamed n x.perm) m.me
  pub params : All (ParamNamed n) m.params
  pub needs : All (λ (x : GroupNeed). HasNumberBelow n x.group) m.needs
  pub body : EachStatement (ActionNamed n) m.body

-- a field: its type and its name
abbrev pub FieldNamed : ℕ → Field → Type 0
FieldNamed n d = TypeNamed n d.ty × HasNumberBelow n d.name

-- a class, without its methods
abbrev pub ClassNamed : ℕ → Class → Type 0
ClassNamed n c = HasNumberBelow n c.name × AreNamed n c.groups × All (FieldNamed n) c.fields

-- ---- statements

-- a field that is taken has a path with a step
abbrev pub TakesField : RightSide → Type 0
TakesField (Taken p at) = p.steps ≢ []
TakesField _ = Unit {0}

-- the path to a field that is taken or written has a step
abbrev pub HasField : Action → Type 0
HasField (Declares t x e) = TakesField e
HasField (Assigns x e) = TakesField e
HasField (Stores p e) = p.steps ≢ []
HasField _ = Unit {0}

-- a split has a group
abbrev pub HasGroup : Action → Type 0
HasGroup (Splits gs n b) = gs ≢ []
HasGroup _ = Unit {0}

-- a statement other than `return`
abbrev pub IsNoReturn : Action → Type 0
IsNoReturn (Returns e) = ⊥
IsNoReturn _ = Unit {0}

-- behind a `return` nothing stands, and none stands in a block
abbrev pub ReturnsLast : Lines → Type 0
ReturnsLast End = Unit {0}
ReturnsLast (Next at a rest) = (IsNoReturn a ⊎ (rest ≡ End)) × InBlocks IsNoReturn a × ReturnsLast rest

-- ---- blocks

abbrev mutual
  -- the numbers of the blocks of a statement, in the order in which they are opened
  pub numbers_in : Action → List ℕ
  numbers_in (Chooses e n b) = n ∷ numbers_among b
  numbers_in (ChoosesElse e n b m c) = n ∷ numbers_among b ++ m ∷ numbers_among c
  numbers_in (Repeats e n b) = n ∷ numbers_among b
  numbers_in (Splits gs n b) = n ∷ numbers_among b
  numbers_in (Locks g n b) = n ∷ numbers_among b
  numbers_in _ = []

  -- the numbers of the blocks in these lines, in the order in which they are opened
  pub numbers_among : Lines → List ℕ
  numbers_among End = []
  numbers_among (Next at a rest) = numbers_in a ++ numbers_among rest

-- the numbers of the blocks of a method: its body's, and then those in it
abbrev pub block_numbers : Definition → List ℕ
block_numbers m = m.no ∷ numbers_among m.body

-- they are 0, 1, 2 and so on
abbrev pub BlocksInOrder : Definition → Type 0
BlocksInOrder m = block_numbers m ≡ numbers_from 0 (length (block_numbers m))

-- ---- declarations

-- the class of a declaration, by its number
abbrev pub class_in : Decl → Option ℕ
class_in (decl.Class n) = Some n
class_in (decl.Method n) = None

-- the methods of a class, by their numbers
abbrev pub own_methods : Option Class → List ℕ
own_methods None = []
own_methods (Some c) = c.methods

-- the methods of a declaration, by their numbers
abbrev pub methods_at : Code → Decl → List ℕ
methods_at p (decl.Class n) = own_methods (slice_get p.classes n)
methods_at p (decl.Method n) = n ∷ []

-- there is a method with this number, and it stands in this class, or in none
pub record IsMethodOf (p : Code) (class : Option ℕ) (n : ℕ) : Type 0 where
  pub method : Definition
  pub found : slice_get p.methods n ≡ Some method
  pub is_of : method.class ≡ class

-- a declaration of a method is of one that stands in no class
abbrev pub DeclaresTop : Code → Decl → Type 0
DeclaresTop p (decl.Class n) = Unit {0}
DeclaresTop p (decl.Method n) = IsMethodOf p None n

-- where a method is of a class, there is a class with that number
abbrev pub IsOfSome : Code → Definition → Type 0
IsOfSome p m = (c : ℕ) → m.class ≡ Some c → c < length p.classes

-- ---- programs

-- a program has the shape that the grammar gives
pub record WellShaped (p : Code) : Type 0 where
  -- the first names are `io`, `main` and `this`
  pub first : (rest : List (List ℕ)) × (p.names ≡ first_names ++ rest)
  -- no two names are spelled alike
  pub distinct : IsDistinct bytes_eq p.names
  -- the names of classes are numbers of names
  pub class_names : All (ClassNamed (length p.names)) p.classes
  -- the names of methods are numbers of names
  pub method_names : All (MethodNamed (length p.names)) p.methods
  -- each class is declared once, in order
  pub classes : filter_map class_in p.decls ≡ numbers_from 0 (length p.classes)
  -- each method is declared once, in order, by its class or at the top
  pub methods : flat_map (methods_at p) p.decls ≡ numbers_from 0 (length p.methods)
  -- the methods of a class are of that class
  pub members : (c : ℕ) (k : Class) → slice_get p.classes c ≡ Some k → All (IsMethodOf p (Some c)) k.methods
  -- the methods at the top are of none
  pub tops : All (DeclaresTop p) p.decls
  -- the class of a method is there
  pub owners : All (IsOfSome p) p.methods
  -- the methods of classes have a receiver, and no others
  pub receivers : All (λ (m : Definition). is_some m.me ≡ is_some m.class) p.methods
  -- each path to a field that is taken or written has a step
  pub fields : All (λ (m : Definition). EachStatement HasField m.body) p.methods
  -- each split has a group
  pub splits : All (λ (m : Definition). EachStatement HasGroup m.body) p.methods
  -- a `return` stands last in a method's body
  pub returns : All (λ (m : Definition). ReturnsLast m.body) p.methods
  -- the blocks of a method are numbered in the order in which they are opened, its body first
  pub blocks : All BlocksInOrder p.methods
  -- no two blocks of a method have one number
  pub apart : All (λ (m : Definition). IsDistinct nat_eq (block_numbers m)) p.methods

-- a derived program is well shaped
abbrev pub DerivedAreWellShaped : Type 0
DerivedAreWellShaped = (tokens : List Token) (p : Code) → Derives tokens p → WellShaped p
