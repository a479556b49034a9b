-- What each test of the tokens ahead decides.
use Rattle.std.proofs.Common.{◌≡◌, ℕ, ◌++◌, List, [], ◌∷◌, length, ◌⊎◌, inl, inr, true, false, Some, refl, sym, ap}
use Rattle.std.proofs.Common.{◌∙◌, subst}
use Rattle.ae_text.specs.declared.token.Keyword.TheVariants as word
use Rattle.ae_text.specs.declared.token.Sign.TheVariants as sign
use Rattle.ae_tree.specs.declared.lexeme.Lexeme.{Lexeme}
use Rattle.ae_tree.specs.declared.lexeme.Lexical.{Lexical}
use Rattle.ae_tree.specs.declared.lexeme.Lexical.TheVariants as tok
use Rattle.ae_tree.specs.declared.tree.NameAt.{NameAt}
use Rattle.ae_tree.specs.declared.tree.Path.{Path}
use Rattle.ae_tree.specs.Names.{this}
use Rattle.ae_tree.specs.Grammar.{Tokens, one_by_one, root, path_step}
use Rattle.ae_reading.specs.Reads.{head, Is, IsName}
use Rattle.ae_statements.specs.declared.decide.Decided.{Decided}
use Rattle.ae_statements.specs.declared.decide.Decided.TheVariants as decided
use Rattle.ae_statements.specs.Deciding.{BehindName, BehindLess, BehindPath, Decides, IsCallable, IsPlainSide}
use Rattle.ae_statements.specs.Deciding.{IsValue, AllSteps, starts, follows_path, follows_compared, follows_group}
use Rattle.ae_statements.proofs.SideLemmas.{callable_name, callable_steps, name_of}
use Rattle.ae_statements.proofs.DecideLemmas.{NoFollow-none, NoFollow-some, neither_path, neither_dot, neither_less}
use Rattle.ae_statements.proofs.DecideLemmas.{neither_name, value_path, value_less, value_name, value_this}
use Rattle.ae_statements.proofs.DecideLemmas.{value_other}

-- what a test of the next token says of it
here : (k : Lexical) (ts later : Tokens) (t : Lexeme) → ts ≡ t ∷ later → Is k (head ts) → t.kind ≡ k
here k ts later t e i = let P : Tokens → Type 0 = λ z. Is k (head z) in subst P e i

not_here : (k : Lexical) (ts later : Tokens) (t : Lexeme) → ts ≡ t ∷ later → (Is k (head ts) → ⊥) → t.kind ≡ k → ⊥
not_here k ts later t e n i = let P : Tokens → Type 0 = λ z. Is k (head z) in n (subst P (sym e) i)

nothing_here : (k : Lexical) (ts : Tokens) → ts ≡ [] → Is k (head ts) → ⊥
nothing_here k ts e i = let P : Tokens → Type 0 = λ z. Is k (head z) in subst P e i

no_name_here : (ts : Tokens) → ts ≡ [] → IsName (head ts) → ⊥
no_name_here ts e i = let P : Tokens → Type 0 = λ z. IsName (head z) in subst P e i

-- ---- behind a path, `<` and a name

pub name_none : (ts : Tokens) → ts ≡ [] → BehindName ts (decided.Neither 0)
name_none ts e ps less n m c k i =
    let P : ℕ → Type 0 = λ z. Decides (ps ++ less ∷ n ∷ ts) (decided.Neither z) in
    subst P (ap length e) (neither_name c.0 ps ts less n m c.1 c.2 k i (NoFollow-none follows_compared ts e)
    (NoFollow-none follows_group ts e))

pub name_neither : (ts later : Tokens) (t : Lexeme) → ts ≡ t ∷ later → false ≡ follows_group t.kind
    → false ≡ follows_compared t.kind → BehindName ts (decided.Neither (length ts))
name_neither ts later t e g f ps less n m c k i = neither_name c.0 ps ts less n m c.1 c.2 k i
    (NoFollow-some follows_compared ts later t e (sym f)) (NoFollow-some follows_group ts later t e (sym g))

pub name_value : (ts later : Tokens) (t : Lexeme) → ts ≡ t ∷ later → false ≡ follows_group t.kind
    → true ≡ follows_compared t.kind → BehindName ts (decided.Value (length ts))
name_value ts later t e g f ps less n m c k i =
    let P : Tokens → Type 0 = λ z. IsValue (ps ++ less ∷ n ∷ z) (length z) in
    subst P (sym e) (value_name c.0 ps later less n t m c.1 c.2 k i (sym g) (sym f))

-- ---- behind a path and `<`

pub less_none : (ts : Tokens) → ts ≡ [] → BehindLess ts (decided.Neither 0)
less_none ts e ps less c k =
    let P : ℕ → Type 0 = λ z. Decides (ps ++ less ∷ ts) (decided.Neither z) in
    subst P (ap length e) (neither_less c.0 ps ts less c.1 c.2 k (no_name_here ts e) (NoFollow-none starts ts e))

pub less_name : (ts later : Tokens) (t : Lexeme) (d : Decided) → ts ≡ t ∷ later → IsName (head ts)
    → BehindName later d → BehindLess ts d
less_name ts later t d e i f ps less c k =
    let P : Tokens → Type 0 = λ z. IsName (head z) in
    let Q : Tokens → Type 0 = λ z. Decides (ps ++ less ∷ z) d in
    let n : IsName (Some t) = subst P e i in
    subst Q (sym e) (f ps less t n.0 c k n.1)

pub less_neither : (ts later : Tokens) (t : Lexeme) → ts ≡ t ∷ later → (IsName (head ts) → ⊥) → false ≡ starts t.kind
    → BehindLess ts (decided.Neither (length ts))
less_neither ts later t e n f ps less c k = neither_less c.0 ps ts less c.1 c.2 k n
    (NoFollow-some starts ts later t e (sym f))

pub less_value : (ts later : Tokens) (t : Lexeme) → ts ≡ t ∷ later → (IsName (head ts) → ⊥) → true ≡ starts t.kind
    → BehindLess ts (decided.Value (length ts))
less_value ts later t e n f ps less c k =
    let P : Tokens → Type 0 = λ z. IsValue (ps ++ less ∷ z) (length z) in
    let Q : Tokens → Type 0 = λ z. IsName (head z) in
    subst P (sym e) (value_less c.0 ps later less t c.1 c.2 k (λ i. n (subst Q (sym e) i)) (sym f))

-- ---- behind a path

-- where no `.` comes next, the path may be called
callable : (p : Path) (ps ts : Tokens) → IsCallable p ps ⊎ Is (tok.Sign sign.Dot) (head ts)
    → (Is (tok.Sign sign.Dot) (head ts) → ⊥) → IsCallable p ps
callable p ps ts (inl c) n = c
callable p ps ts (inr i) n = absurd (n i)

pub path_none : (ts : Tokens) → ts ≡ [] → BehindPath ts (decided.Neither 0)
path_none ts e p ps q c none =
    let P : ℕ → Type 0 = λ z. Decides (ps ++ ts) (decided.Neither z) in
    let no_dot : Is (tok.Sign sign.Dot) (head ts) → ⊥ = nothing_here (tok.Sign sign.Dot) ts e in
    subst P (ap length e) (neither_path p ps ts q (callable p ps ts c no_dot) no_dot
    (nothing_here (tok.Sign sign.OpenParen) ts e) (nothing_here (tok.Sign sign.Less) ts e)
    (NoFollow-none follows_path ts e))

pub path_dot : (ts later : Tokens) (t : Lexeme) → ts ≡ t ∷ later → Is (tok.Sign sign.Dot) (head ts)
    → BehindPath ts (decided.Neither (length later))
path_dot ts later t e i p ps q c none =
    let dot : t.kind ≡ tok.Sign sign.Dot = here (tok.Sign sign.Dot) ts later t e i in
    let P : Tokens → Type 0 = λ z. Decides (ps ++ z) (decided.Neither (length later)) in
    subst P (sym e) (neither_dot p ps later t q dot (no_step later dot e))
  where
    no_step : (later : Tokens) → t.kind ≡ tok.Sign sign.Dot → ts ≡ t ∷ later → IsName (head later) → ⊥
    no_step [] dot e i = i
    no_step (n ∷ rest) dot e i = none rest
        (record { dot = t; field = n; number = i.0; whole = e; is_dot = dot; is_name = i.1 })

pub path_less : (ts later : Tokens) (t : Lexeme) (d : Decided) → ts ≡ t ∷ later
    → (Is (tok.Sign sign.Dot) (head ts) → ⊥) → Is (tok.Sign sign.Less) (head ts) → BehindLess later d
    → BehindPath ts d
path_less ts later t d e no_dot i f p ps q c none =
    let P : Tokens → Type 0 = λ z. Decides (ps ++ z) d in
    subst P (sym e) (f ps t (p, q, callable p ps ts c no_dot) (here (tok.Sign sign.Less) ts later t e i))

pub path_neither : (ts later : Tokens) (t : Lexeme) → ts ≡ t ∷ later → (Is (tok.Sign sign.Dot) (head ts) → ⊥)
    → (Is (tok.Sign sign.OpenParen) (head ts) → ⊥) → (Is (tok.Sign sign.Less) (head ts) → ⊥)
    → false ≡ follows_path t.kind → BehindPath ts (decided.Neither (length ts))
path_neither ts later t e no_dot no_paren no_less f p ps q c none = neither_path p ps ts q
    (callable p ps ts c no_dot) no_dot no_paren no_less (NoFollow-some follows_path ts later t e (sym f))

pub path_value : (ts later : Tokens) (t : Lexeme) → ts ≡ t ∷ later → (Is (tok.Sign sign.Dot) (head ts) → ⊥)
    → (Is (tok.Sign sign.OpenParen) (head ts) → ⊥) → (Is (tok.Sign sign.Less) (head ts) → ⊥)
    → true ≡ follows_path t.kind → BehindPath ts (decided.Value (length ts))
path_value ts later t e no_dot no_paren no_less f p ps q c none =
    let P : Tokens → Type 0 = λ z. IsValue (ps ++ z) (length z) in
    subst P (sym e) (value_path p ps later t q (callable p ps ts c no_dot)
    (not_here (tok.Sign sign.Dot) ts later t e no_dot) (not_here (tok.Sign sign.OpenParen) ts later t e no_paren)
    (not_here (tok.Sign sign.Less) ts later t e no_less) (sym f))

-- ---- from the start

-- a root and the steps behind it
rooted : (x : NameAt) (t : Lexeme) (ts rest : Tokens) (d : Decided) → root x (t ∷ []) → (s : AllSteps ts rest) →
    IsCallable (record { root = x; steps = s.fields }) (t ∷ s.taken) ⊎ Is (tok.Sign sign.Dot) (head rest)
    → BehindPath rest d → Decides (t ∷ ts) d
rooted x t ts rest d r s c f =
    let P : Tokens → Type 0 = λ z. Decides (t ∷ z) d in
    subst P (sym s.whole) (f (record { root = x; steps = s.fields }) (t ∷ s.taken)
    (record { front = t ∷ []; back = s.taken; parts = refl; first = r; second = s.are }) c s.no_more)

named_callable : (x : NameAt) (t : Lexeme) (fields : List NameAt) (taken : Tokens)
    → t ∷ [] ≡ record { kind = tok.Name x.name; at = x.at } ∷ [] → one_by_one path_step fields taken
    → IsCallable (record { root = x; steps = fields }) (t ∷ taken)
named_callable x t [] taken e s = let P : Tokens → Type 0 = λ z. IsCallable (record { root = x; steps = [] })
    (t ∷ z) in subst P (sym s) (callable_name x (t ∷ []) e)
named_callable x t (y ∷ ys) taken e s = callable_steps x y ys (t ∷ []) taken (inl e) s

this_callable : (x : NameAt) (t : Lexeme) (fields : List NameAt) (taken ts rest : Tokens) → root x (t ∷ [])
    → one_by_one path_step fields taken → ts ≡ taken ++ rest → Is (tok.Sign sign.Dot) (head ts)
    → IsCallable (record { root = x; steps = fields }) (t ∷ taken) ⊎ Is (tok.Sign sign.Dot) (head rest)
this_callable x t [] taken ts rest r s e i = let P : Tokens → Type 0 = λ z. Is (tok.Sign sign.Dot) (head z) in inr
    (subst P (e ∙ ap (λ z. z ++ rest) s) i)
this_callable x t (y ∷ ys) taken ts rest r s e i = inl (callable_steps x y ys (t ∷ []) taken r s)

pub this_steps : (ts rest : Tokens) (d : Decided) → Is (tok.Sign sign.Dot) (head ts) → AllSteps ts rest
    → BehindPath rest d → (first : Lexeme) → first.kind ≡ tok.Word word.This → Decides (first ∷ ts) d
this_steps ts rest d i s f first k =
    let x : NameAt = record { name = this; at = first.at } in
    let r : root x (first ∷ []) = inr (refl, ap (λ j. record { kind = j; at = first.at } ∷ []) k) in
    rooted x first ts rest d r s (this_callable x first s.fields s.taken ts rest r s.are s.whole i) f

pub this_alone : (ts : Tokens) → (Is (tok.Sign sign.Dot) (head ts) → ⊥) → (first : Lexeme)
    → first.kind ≡ tok.Word word.This → IsValue (first ∷ ts) (length ts)
this_alone ts n first k = value_this ts first k n

pub from_name : (ts mid rest : Tokens) (t : Lexeme) (d : Decided) → ts ≡ t ∷ mid → IsName (head ts)
    → AllSteps mid rest → BehindPath rest d → Decides ts d
from_name ts mid rest t d e i s f =
    let P : Tokens → Type 0 = λ z. IsName (head z) in
    let Q : Tokens → Type 0 = λ z. Decides z d in
    let n : IsName (Some t) = subst P e i in
    let x : NameAt = record { name = n.0; at = t.at } in
    let is : t ∷ [] ≡ record { kind = tok.Name n.0; at = t.at } ∷ [] = name_of t n.0 n.1 in
    subst Q (sym e) (rooted x t mid rest d (inl is) s (inl (named_callable x t s.fields s.taken is s.are)) f)

pub from_this : (ts mid : Tokens) (t : Lexeme) (d : Decided) → ts ≡ t ∷ mid → Is (tok.Word word.This) (head ts)
    → ((first : Lexeme) → first.kind ≡ tok.Word word.This → Decides (first ∷ mid) d) → Decides ts d
from_this ts mid t d e i f = let Q : Tokens → Type 0 =
    λ z. Decides z d in subst Q (sym e) (f t (here (tok.Word word.This) ts mid t e i))

pub from_none : (ts : Tokens) → IsPlainSide ts → ts ≡ [] → IsValue ts (length ts)
from_none ts plain e = value_other ts plain (no_name_here ts e) (nothing_here (tok.Word word.This) ts e)
