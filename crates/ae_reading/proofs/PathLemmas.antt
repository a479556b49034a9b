-- Paths: a root, and the fields that lead on from it.
use Rattle.std.proofs.Common.{◌≡◌, ℕ, ◌++◌, List, [], refl, ap, inl, inr}
use Rattle.ae_text.specs.declared.refusal.Spot.{Spot}
use Rattle.ae_text.specs.declared.token.Keyword.TheVariants as word
use Rattle.ae_text.specs.declared.token.Sign.TheVariants as sign
use Rattle.ae_tree.specs.declared.lexeme.Lexical.{Lexical}
use Rattle.ae_tree.specs.declared.lexeme.Lexical.TheVariants as tok
use Rattle.ae_tree.specs.declared.tree.NameAt.{NameAt}
use Rattle.ae_tree.specs.declared.tree.Path.{Path}
use Rattle.ae_tree.specs.Grammar.{Tokens, one_by_one, name, root, path_step, path}
use Rattle.ae_tree.specs.Names.{this}
use Rattle.ae_reading.specs.declared.fail.Fail.{Fail}
use Rattle.ae_reading.specs.Reads.{head, Always, Is, Isnt, Free, IsWithinAll, Took, Failed, Token, TokenMark}
use Rattle.ae_reading.proofs.ReadsLemmas.{Lang, Bound, Both, Pair, Along, NoneAt, took_as, failed_as, first, second}
use Rattle.ae_reading.proofs.ReadsLemmas.{both, free, took_mark, failed_mark, has_name}
use Rattle.ae_reading.proofs.Begins.{opens_one, opens_mark, opens_is, opens_other}
use Rattle.ae_reading.proofs.Runs.{has_none}

-- ---- the root

abbrev pub this_at : Spot → NameAt
this_at at = record { name = this; at = at }

this_cases : (ts : Tokens) → Is (tok.Word word.This) (head ts) → (y : NameAt) (us r : Tokens) → root y us
    → head (us ++ r) ≡ head ts → (at : Spot) × (y ≡ this_at at) × Token (tok.Word word.This) at us
this_cases ts is y us r (inl d) h = let no : tok.Name y.name ≡ tok.Word word.This = opens_is us r ts
    (opens_one us r d) h is in absurd cc
this_cases ts is y us r (inr d) h = (y.at, ap (λ (n : ℕ). record { name = n; at = y.at }) d.0, d.1)

this_along : (ts : Tokens) → Is (tok.Word word.This) (head ts)
    → Along root (Token (tok.Word word.This)) Free Free ts this_at
this_along ts is = record {
  intro = λ q us d. inr (refl, d);
  cases = this_cases ts is;
  to = λ q us d l v. tt;
  from =
      λ q us d l v. tt;
}

named_cases : (ts : Tokens) → (Is (tok.Word word.This) (head ts) → ⊥) → (y : NameAt) (us r : Tokens) → root y us
    → head (us ++ r) ≡ head ts → (q : NameAt) × (y ≡ q) × name q us
named_cases ts other y us r (inl d) h = (y, refl, d)
named_cases ts other y us r (inr d) h = absurd (opens_other us r ts (opens_one us r d.1) h other)

named_along : (ts : Tokens) → (Is (tok.Word word.This) (head ts) → ⊥) → Along root name Free Free ts (λ q. q)
named_along ts other = record {
  intro = λ q us d. inl d;
  cases = named_cases ts other;
  to = λ q us d l v. tt;
  from =
      λ q us d l v. tt;
}

pub this_took : (ts rest : Tokens) (at : Spot) → Is (tok.Word word.This) (head ts)
    → Took (Token (tok.Word word.This)) Free Always ts at rest → Took root Free Always ts (this_at at) rest
this_took ts rest at i t = took_as root (Token (tok.Word word.This)) this_at (this_along ts i) t

pub this_failed : (ts : Tokens) (e : Fail) → Is (tok.Word word.This) (head ts)
    → Failed (Token (tok.Word word.This)) Free Always ts e → Failed root Free Always ts e
this_failed ts e i f = failed_as root (Token (tok.Word word.This)) this_at (this_along ts i) f

pub named_took : (ts rest : Tokens) (x : NameAt) → (Is (tok.Word word.This) (head ts) → ⊥)
    → Took name Free Always ts x rest → Took root Free Always ts x rest
named_took ts rest x n t = took_as root name (λ q. q) (named_along ts n) t

pub named_failed : (ts : Tokens) (e : Fail) → (Is (tok.Word word.This) (head ts) → ⊥) → Failed name Free Always ts e
    → Failed root Free Always ts e
named_failed ts e n f = failed_as root name (λ q. q) (named_along ts n) f

-- ---- a step

abbrev pub dot : Lexical
dot = tok.Sign sign.Dot

abbrev dotted : Lang (Unit {0} × NameAt)
dotted = Both (TokenMark dot) name

-- what is no dot begins no step
pub no_step : (ts : Tokens) → (Is dot (head ts) → ⊥) → NoneAt path_step ts
no_step ts other y us r d h = opens_other us r ts (opens_mark us r d) h other

step_along : (ts : Tokens) → Along path_step dotted Free (Pair Free Free) ts (λ q. q.1)
step_along ts = record {
  intro = λ q us d. d;
  cases = λ y us r d h. ((tt, y), refl, d);
  to = λ q us d l v. tt;
  from =
      λ q us d l v. (tt, tt);
}

pub step_took : (ts middle rest : Tokens) (at : Spot) (x : NameAt) → Took (Token dot) Free Always ts at middle
    → Took name Free Always middle x rest → Took path_step Free Always ts x rest
step_took ts middle rest at x t u = took_as path_step dotted (λ q. q.1) (step_along ts)
    (both (free name Always) (took_mark t) u)

pub step_failed_dot : (ts : Tokens) (e : Fail) → Failed (Token dot) Free Always ts e → Failed path_step Free Always ts e
step_failed_dot ts e f = failed_as path_step dotted (λ q. q.1) (step_along ts)
    (first (free name Always) has_name (failed_mark f))

pub step_failed_name : (ts middle : Tokens) (at : Spot) (e : Fail) → Took (Token dot) Free Always ts at middle
    → Failed name Free Always middle e → Failed path_step Free Always ts e
step_failed_name ts middle at e t f = failed_as path_step dotted (λ q. q.1) (step_along ts)
    (second (free name Always) (took_mark t) f)

-- ---- a path, where the limit is one of its steps

abbrev pub stepped : Lang (NameAt × List NameAt)
stepped = Both root (one_by_one path_step)

abbrev pub path_of : NameAt × List NameAt → Path
path_of q = record { root = q.0; steps = q.1 }

pub path_along : (U : Bound (List NameAt)) (ts : Tokens)
    → Along path stepped (λ l p. U l p.steps) (Pair Free U) ts path_of
path_along U ts = record {
  intro = λ q us d. d;
  cases = λ y us r d h. ((y.root, y.steps), refl, d);
  to =
      λ q us d l v. v.1;
  from = λ q us d l v. (tt, v);
}

pub path_took : (U : Bound (List NameAt)) (ts middle rest : Tokens) (x : NameAt) (xs : List NameAt) →
    Took root Free Always ts x middle → Took (one_by_one path_step) U (Isnt dot) middle xs rest
    → Took path (λ l p. U l p.steps) (Isnt dot) ts (path_of (x, xs)) rest
path_took U ts middle rest x xs t u = took_as path stepped path_of (path_along U ts)
    (both (free (one_by_one path_step) (Isnt dot)) t u)

pub path_failed_root : (U : Bound (List NameAt)) (ts : Tokens) (e : Fail) → IsWithinAll U []
    → Failed root Free Always ts e → Failed path (λ l p. U l p.steps) (Isnt dot) ts e
path_failed_root U ts e none f = failed_as path stepped path_of (path_along U ts)
    (first (free (one_by_one path_step) (Isnt dot)) (has_none path_step U none) f)

pub path_failed_steps : (U : Bound (List NameAt)) (ts middle : Tokens) (x : NameAt) (e : Fail)
    → Took root Free Always ts x middle → Failed (one_by_one path_step) U (Isnt dot) middle e
    → Failed path (λ l p. U l p.steps) (Isnt dot) ts e
path_failed_steps U ts middle x e t f = failed_as path stepped path_of (path_along U ts)
    (second (free (one_by_one path_step) (Isnt dot)) t f)
