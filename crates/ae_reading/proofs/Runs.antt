-- Items of one language one after another: a chain whose state is nothing.
use Rattle.std.proofs.Common.{◌≡◌, ℕ, ◌++◌, List, [], ◌∷◌, length, Option, refl}
use Rattle.ae_tree.specs.declared.lexeme.Lexeme.{Lexeme}
use Rattle.ae_tree.specs.declared.limits.Limit.{Limit}
use Rattle.ae_tree.specs.Grammar.{Tokens, one_by_one}
use Rattle.ae_reading.specs.declared.fail.Fail.{Fail}
use Rattle.ae_reading.specs.declared.fail.Why.{Why}
use Rattle.ae_reading.specs.Reads.{head, IsWithinAll, Took, Stopped, Failed, Counts, Beyond, chain}
use Rattle.ae_reading.proofs.ReadsLemmas.{Lang, Bound, Follow, Links, Has, Along, NoneAt, took_as, stopped_as}
use Rattle.ae_reading.proofs.ReadsLemmas.{failed_by}
use Rattle.ae_reading.proofs.Chains.{Chain, ChainTurns, chain-append, chain-one, chain_start, chain_more}
use Rattle.ae_reading.proofs.Chains.{chain_stopped, chain_full, chain_end, chain_turns}
use Rattle.ae_reading.proofs.Begins.{Begins}

-- items of D, as a chain
abbrev pub Items : {A : Type 0} → Lang A → Unit {0} → Lang (List A)
Items D = chain (λ s. D) (λ s x. s)

pub each_chain : {A : Type 0} (D : Lang A) (s : Unit {0}) (xs : List A) (us : Tokens) → one_by_one D xs us
    → Items D s xs us
each_chain D s [] us d = d
each_chain D s (x ∷ xs) us d = record {
  front = d.front;
  back = d.back;
  parts = d.parts;
  first = d.first;
  second =
      each_chain D s xs d.back d.second;
}

pub chain_each : {A : Type 0} (D : Lang A) (s : Unit {0}) (xs : List A) (us : Tokens) → Items D s xs us
    → one_by_one D xs us
chain_each D s [] us d = d
chain_each D s (x ∷ xs) us d = record {
  front = d.front;
  back = d.back;
  parts = d.parts;
  first = d.first;
  second =
      chain_each D s xs d.back d.second;
}

each_along : {A : Type 0} (D : Lang A) (V : Bound (List A)) (ts : Tokens)
    → Along (one_by_one D) (Items D tt) V V ts (λ xs. xs)
each_along D V ts = record {
  intro = λ xs us d. chain_each D tt xs us d;
  cases = λ xs us r d h. (xs, refl, each_chain D tt xs us d);
  to = λ xs us d l v. v;
  from = λ xs us d l v. v;
}

pub each-append : {A : Type 0} (D : Lang A) (xs zs : List A) (a b : Tokens) → one_by_one D xs a → one_by_one D zs b
    → one_by_one D (xs ++ zs) (a ++ b)
each-append D xs zs a b m n = chain_each D tt (xs ++ zs) (a ++ b)
    (chain-append (λ (s : Unit {0}). D) (λ s x. s) tt xs zs a b (each_chain D tt xs a m) (each_chain D _ zs b n))

pub each-one : {A : Type 0} (D : Lang A) (x : A) (a : Tokens) → D x a → one_by_one D (x ∷ []) a
each-one D x a d = chain-one (λ (s : Unit {0}). D) (λ s x. s) tt x a d

-- the first token behind some of D, or none of them
pub each_turns : {A : Type 0} (D : Lang A) (F G : Follow) → Begins D G → ((o : Option Lexeme) → F o → G o)
    → Links (one_by_one D) F G
each_turns D F G begin inside xs us r d f = chain_turns (λ (s : Unit {0}). D) (λ s x. s) F G
    (λ s. begin) inside tt xs us r (each_chain D tt xs us d) f

pub has_none : {A : Type 0} (D : Lang A) (V : Bound (List A)) → IsWithinAll V [] → Has (one_by_one D) V
has_none D V v = record { tree = []; tokens = []; is = refl; known = tt; within = v }

-- The items xs were read. All that begins so begins with these items.
abbrev pub Run : {A : Type 0} → Lang A → Bound (List A) → Follow → Tokens → List A → Tokens → Type 0
Run D V F ts xs rest = Chain (λ (s : Unit {0}). D) (λ s x. s) V F tt ts xs rest

pub run_start : {A : Type 0} (D : Lang A) (V : Bound (List A)) (F : Follow) (ts : Tokens) → IsWithinAll V []
    → Run D V F ts [] ts
run_start D V F ts v = chain_start (λ (s : Unit {0}). D) (λ s x. s) V F tt ts v

turns : {A : Type 0} (D : Lang A) (F G : Follow) → Links (one_by_one D) F G
    → ChainTurns (λ (s : Unit {0}). D) (λ s x. s) F G
turns D F G link s zs vs r m f = link zs vs r (chain_each D s zs vs m) f

pub run_more : {A : Type 0} {D : Lang A} {V : Bound (List A)} {W : Bound A} {F G : Follow} {ts rest rest' : Tokens}
    {xs : List A} {x : A} →
    Links (one_by_one D) F G → (F (head rest) → ⊥) → IsWithinAll V (xs ++ x ∷ []) → Run D V F ts xs rest
    → Took D W G rest x rest' → Run D V F ts (xs ++ x ∷ []) rest'
run_more {D = D} {F = F} {G = G} link goes_on v t u = chain_more (turns D F G link) goes_on v t u

-- an item stops
pub run_stopped : {A : Type 0} {D : Lang A} {V : Bound (List A)} {W : Bound A} {F G : Follow} {ts rest : Tokens}
    {xs : List A} {why : Why} {left : ℕ} →
    Links (one_by_one D) F G → (F (head rest) → ⊥) → ((l : Limit) (z : A) → W l z → V l (xs ++ z ∷ []))
    → ((l : Limit) (z : A) (zs : List A) → V l (xs ++ z ∷ zs) → W l z) →
    Run D V F ts xs rest → Stopped D W G rest why left → Stopped (one_by_one D) V F ts why left
run_stopped {D = D} {V = V} {F = F} {G = G} {ts = ts} link goes_on fits back t u =
    stopped_as (one_by_one D) (Items D tt) (λ xs. xs) (each_along D V ts)
    (chain_stopped (turns D F G link) goes_on fits back t u)

pub run_failed : {A : Type 0} {D : Lang A} {V : Bound (List A)} {W : Bound A} {F G : Follow} {ts rest : Tokens}
    {xs : List A} {e : Fail} →
    Links (one_by_one D) F G → (F (head rest) → ⊥) → ((l : Limit) (z : A) → W l z → V l (xs ++ z ∷ []))
    → ((l : Limit) (z : A) (zs : List A) → V l (xs ++ z ∷ zs) → W l z) →
    Run D V F ts xs rest → Failed D W G rest e → Failed (one_by_one D) V F ts e
run_failed link goes_on fits back t f = failed_by (λ why left s. run_stopped link goes_on fits back t s) f

-- no item can come next: none begins so, or each is over the limit
pub run_full : {A : Type 0} {D : Lang A} {V : Bound (List A)} {F : Follow} {ts rest : Tokens} {xs : List A}
    (why : Why) →
    (F (head rest) → ⊥) → ((z : A) (zs : List A) (us r : Tokens) → D z us → head (us ++ r) ≡ head rest
    → Counts why (λ l. V l (xs ++ z ∷ zs)) → ⊥) →
    Beyond D (λ l z. V l (xs ++ z ∷ [])) [] rest why → Run D V F ts xs rest
    → Stopped (one_by_one D) V F ts why (length rest)
run_full {D = D} {V = V} {ts = ts} why goes_on none beyond t = stopped_as (one_by_one D) (Items D tt) (λ xs. xs)
    (each_along D V ts) (chain_full why goes_on none beyond t)

pub run_end : {A : Type 0} {D : Lang A} {V : Bound (List A)} {F : Follow} {ts rest : Tokens} {xs : List A} →
    NoneAt D rest → Run D V F ts xs rest → Took (one_by_one D) V F ts xs rest
run_end {D = D} {V = V} {ts = ts} none t = took_as (one_by_one D) (Items D tt) (λ xs. xs) (each_along D V ts)
    (chain_end none t)
