-- Facts on values that are moved_with from arguments, while names that move keep theirs to the end.
use Rattle.std.proofs.Common.{◌≡◌, ◌∙◌, refl, sym, ap, ℕ, nat_eq, Bool, true, false, not, ◌&&◌, List, [], ◌∷◌, map}
use Rattle.std.proofs.Common.{Option, None, Some, Result, Ok, Err}
use Rattle.std.specs.Prelude.{option_map, if◌then◌else◌, zip, filter_map}
use Rattle.std.specs.List.{cons_option}
use Rattle.std.proofs.lemmas.Bool.{false≢true, eqb-true, not-true}
use Rattle.ae_tree.specs.declared.tree.Path.{Path}
use Rattle.ae_tree.specs.declared.tree.Class.{Class}
use Rattle.ae_tree.specs.declared.tree.Field.{Field}
use Rattle.ae_tree.specs.declared.form.Form.{Form}
use Rattle.ae_tree.specs.Plain.{Expression, Number, Truth, Nothing, Read, Item, Length, Grouped, Negated, Minus, Binary}
use Rattle.ae_tree.specs.Plain.{Code}
use Rattle.ae_rules.specs.Into.{name_into}
use Rattle.ae_rules.specs.Lookups.{class_called, field_form}
use Rattle.ae_rules.specs.Verdict.{given}
use Rattle.ae_tree.specs.declared.tree.NameAt.{NameAt}
use Rattle.ae_tree.specs.Form.{bare_names}
use Rattle.ae_rules.specs.Walks.{is_name}
use Rattle.ae_semantics.specs.Values.{Val}
use Rattle.ae_semantics.specs.Values as meant
use Rattle.ae_semantics.specs.Places.{Outcome, Fine, Traps, Lacks, ◌>>=◌, there, Bound, State, with, with_bound}
use Rattle.ae_semantics.specs.Expressions.{value}
use Rattle.ae_semantics.specs.Calls.{without_moved}
use Rattle.ae_semantics.specs.Meaning.{each_value, fields_moved}
use Rattle.ae_values.specs.declared.value.Val.{Val as Held}
use Rattle.ae_values.specs.Shown.{shown, fields_shown}
use Rattle.ae_reads.specs.declared.stop.Stop.{Stop}
use Rattle.ae_reads.specs.Answers.{ReadsAs, FaultsAs}
use Rattle.ae_acts.specs.Doing.{value_in}
use Rattle.ae_acts.specs.Made.{moves_by, names_there, is_noted, stands_alone, all_beside, moved_with, beside}
use Rattle.ae_acts.proofs.from_text.Basics.{functions_agree, first_of_both, second_of_both, first_of_neither}
use Rattle.ae_acts.proofs.from_text.Basics.{second_of_neither}
use Rattle.ae_acts.proofs.from_reads.WalkLemmas.{faults_go_on}
use Rattle.ae_acts.proofs.ValueLemmas.{alone_goes}

-- ---- names that lose their values

-- of two names that lose their values either may be the first
lost_either_way : (x y : ℕ) (s : State)
    → with_bound y None (with_bound x None s) ≡ with_bound x None (with_bound y None s)
lost_either_way x y s = ap (λ (ls : ℕ → Option Bound). record s { locals = ls })
    (functions_agree (with y None (with x None s.locals)) (with x None (with y None s.locals))
    (λ z. by_tests (nat_eq x z) (nat_eq y z) (s.locals z)))
  where
    by_tests : (a b : Bool) (o : Option Bound) → (if b then None else (if a then None else o))
        ≡ (if a then None else (if b then None else o))
    by_tests true true o = refl
    by_tests true false o = refl
    by_tests false true o = refl
    by_tests false false o = refl

-- the first of these names may be the last that loses its value
lost_last : (xs : List ℕ) (x : ℕ) (s : State)
    → without_moved xs (with_bound x None s) ≡ with_bound x None (without_moved xs s)
lost_last [] x s = refl
lost_last (y ∷ ys) x s = ap (without_moved ys) (lost_either_way x y s) ∙ lost_last ys x (with_bound y None s)

-- a name that is not among these keeps its value
pub value_stays : (ms : List (Option ℕ)) (x : ℕ) (s : State) → is_noted ms x ≡ false
    → value_in (without_moved (names_there ms) s) x ≡ value_in s x
value_stays [] x s none = refl
value_stays (None ∷ ms) x s none = value_stays ms x s none
value_stays (Some y ∷ ms) x s none =
    value_stays ms x (with_bound y None s) (second_of_neither (nat_eq y x) (is_noted ms x) none)
    ∙ ap (λ t. option_map (λ (b : Bound). b.value) (if t then None else s.locals x))
    (first_of_neither (nat_eq y x) (is_noted ms x) none)

-- ---- a name that stands alone

path_is : (p : Code) (s : State) (path : Path) (x : ℕ) → stands_alone (Read path) x ≡ true
    → value p s (Read path) ≡ there (value_in s x)
path_is p s path x is =
    alone_goes p s path.root.name (s.locals path.root.name) path.steps
    (first_of_both (is_name path) (nat_eq path.root.name x) is)
    ∙ ap (λ y. there (value_in s y))
    (eqb-true path.root.name x (second_of_both (is_name path) (nat_eq path.root.name x) is))

-- its value is that of the local
pub alone_is : (p : Code) (s : State) (e : Expression) (x : ℕ) → stands_alone e x ≡ true
    → value p s e ≡ there (value_in s x)
alone_is p s (Read path) x is = path_is p s path x is
alone_is p s (Number n at) x is = absurd (false≢true is)
alone_is p s (Truth b at) x is = absurd (false≢true is)
alone_is p s (Nothing at) x is = absurd (false≢true is)
alone_is p s (Item path e) x is = absurd (false≢true is)
alone_is p s (Length path at) x is = absurd (false≢true is)
alone_is p s (Grouped e at) x is = absurd (false≢true is)
alone_is p s (Negated e at) x is = absurd (false≢true is)
alone_is p s (Minus e at) x is = absurd (false≢true is)
alone_is p s (Binary o a b) x is = absurd (false≢true is)

-- ---- one argument more

-- an argument with which a name moves
pub one_moves : (p : Code) (s : State) (e : Expression) (es : List Expression) (x : ℕ) (names : List ℕ) (v : Val)
    → value p s e ≡ Fine v → moved_with p (e ∷ es) (x ∷ names) s
    ≡ (moved_with p es names s >>= λ (r : List Val × State). all_beside (with_bound x None r.1) (v ∷ r.0))
one_moves p s e es x names v is =
    ap (λ (o : Outcome Val). (o >>= λ w. each_value p s es >>= λ vs. Fine (w ∷ vs))
    >>= all_beside (without_moved (x ∷ names) s)) is
    ∙ by_cases (each_value p s es)
  where
    by_cases : (o : Outcome (List Val)) → ((o >>= λ vs. Fine (v ∷ vs)) >>= all_beside (without_moved (x ∷ names) s))
        ≡ ((o >>= all_beside (without_moved names s)) >>= λ (r : List Val × State). all_beside (with_bound x None r.1) (v ∷ r.0))
    by_cases (Fine vs) = ap (λ t. all_beside t (v ∷ vs)) (lost_last names x s)
    by_cases (Traps code) = refl
    by_cases Lacks = refl

-- a fault of the first argument
pub first_fails : (p : Code) (s : State) (e : Expression) (es : List Expression) (names : List ℕ) (stop : Stop)
    → FaultsAs (value p s e) stop → FaultsAs (moved_with p (e ∷ es) names s) stop
first_fails p s e es names stop h =
    faults_go_on (value p s e >>= λ w. each_value p s es >>= λ vs. Fine (w ∷ vs)) (all_beside (without_moved names s)) stop
    (faults_go_on (value p s e) (λ w. each_value p s es >>= λ vs. Fine (w ∷ vs)) stop h)

-- the names that lost their values, with one more that lost its own last
pub lost_too : (x : ℕ) (names : List ℕ) (s t u : State) → t ≡ without_moved names s → u ≡ with_bound x None t
    → u ≡ without_moved (x ∷ names) s
lost_too x names s t u is last = last ∙ ap (with_bound x None) is ∙ sym (lost_last names x s)

-- the value that a name has once those were taken out that come later, where it is none of them
pub alone_value : (p : Code) (s t : State) (e : Expression) (x : ℕ) (later : List (Option ℕ)) (taken : Option Val)
    → (stands_alone e x && not (is_noted later x)) ≡ true → t ≡ without_moved (names_there later) s
    → taken ≡ value_in t x → value p s e ≡ there taken
alone_value p s t e x later taken test left is =
    alone_is p s e x (first_of_both (stands_alone e x) (not (is_noted later x)) test)
    ∙ ap there (sym (value_stays later x s
    (not-true (is_noted later x) (second_of_both (stands_alone e x) (not (is_noted later x)) test)))
    ∙ ap (λ u. value_in u x) (sym left) ∙ sym is)

-- an argument with which a name moved, with all others
pub moved_done : (p : Code) (s t u : State) (e : Expression) (es : List Expression) (x : ℕ) (names : List ℕ) (v : Val)
    (vs all : List Val) → value p s e ≡ Fine v → moved_with p es names s ≡ all_beside t vs → all ≡ v ∷ vs
    → u ≡ with_bound x None t → moved_with p (e ∷ es) (x ∷ names) s ≡ all_beside u all
moved_done p s t u e es x names v vs all is others together last =
    (one_moves) p s e es x names v is
    ∙ ap (λ (o : Outcome (List Val × State)). o >>= λ (r : List Val × State).
    all_beside (with_bound x None r.1) (v ∷ r.0)) others
    ∙ ap (all_beside (with_bound x None t)) (sym together)
    ∙ ap (λ y. all_beside y all) (sym last)

-- ---- names that move into fields

first_there : (o : Option ℕ) (ms : List (Option ℕ)) → names_there (o ∷ ms) ≡ cons_option o (names_there ms)
first_there None ms = refl
first_there (Some x) ms = refl

-- each name that moves with an argument into its field
pub moves_are : (c : Class) (gs : List ℕ) (ds : List Field) (es : List Expression)
    → names_there (moves_by c gs ds es)
    ≡ filter_map (λ (x : Form × Expression). name_into x.0 x.1) (zip (map (field_form c gs) ds) es)
moves_are c gs [] es = refl
moves_are c gs (d ∷ ds) [] = refl
moves_are c gs (d ∷ ds) (e ∷ es) =
    first_there (name_into (field_form c gs d) e) (moves_by c gs ds es)
    ∙ ap (cons_option (name_into (field_form c gs d) e)) (moves_are c gs ds es)

-- the names that move into the fields of a class that is declared
pub fields_move : (p : Code) (x : ℕ) (gs : List NameAt) (es : List Expression) (c : Class) (ms : List (Option ℕ))
    → class_called p x ≡ Some c → ms ≡ moves_by c (bare_names gs) c.fields es
    → names_there ms ≡ given (class_called p x) [] (fields_moved gs es)
fields_move p x gs es c ms called is = ap names_there is ∙ moves_are c (bare_names gs) c.fields es
    ∙ ap (λ (o : Option Class). given o [] (fields_moved gs es)) (sym called)

-- ---- objects

-- values that stand here are the fields of an object
pub fields_are : (xs : List Held) → meant.values (map shown xs) ≡ fields_shown xs
fields_are [] = refl
fields_are (x ∷ xs) = ap (meant.AndValue (shown x)) (fields_are xs)

-- an answer that keeps a state
pub reads_beside : {B : Type 0} (o : Outcome Val) (t : State) (view : B → Val) (r : Result B Stop) → ReadsAs o view r
    → ReadsAs (o >>= beside t) (λ b. (view b, t)) r
reads_beside o t view (Ok b) h = ap (λ (y : Outcome Val). y >>= beside t) h
reads_beside o t view (Err stop) h = faults_go_on o (beside t) stop h
