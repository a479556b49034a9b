-- Tokens stand for one path at most.
use Rattle.std.proofs.Common.{◌≡◌, ◌++◌, ◌∷◌, refl, sym, ap, ◌∙◌, inl, inr}
use Rattle.std.specs.Prelude.{◌⊎◌}
use Rattle.ae_text.specs.declared.token.Keyword.TheVariants as word
use Rattle.ae_text.specs.declared.token.Sign.TheVariants as sign
use Rattle.ae_tree.specs.declared.lexeme.Lexeme.{Lexeme}
use Rattle.ae_tree.specs.declared.lexeme.Lexical.TheVariants as tok
use Rattle.ae_tree.specs.declared.tree.NameAt.{NameAt}
use Rattle.ae_tree.specs.Grammar.{Tokens, one_by_one, name, root, path_step, path}
use Rattle.ae_reading.specs.Reads.{Always, Is, Isnt, IsName, Token, TokenMark}
use Rattle.ae_reading.proofs.ReadsLemmas.{Follow, Both, name_token}
use Rattle.ae_reading.proofs.UniqueLemmas.{Unique, apart_by, unique_at, unique_name, unique_mark, unique_then}
use Rattle.ae_reading.proofs.UniqueLemmas.{unique_both, unique_each, unique_as}
use Rattle.ae_reading.proofs.Begins.{Begins, begins_name, begins_token, begins_mark, begins_both, is_isnt}
use Rattle.ae_reading.proofs.PathLemmas.{dot, path_of}

-- what a path begins with
abbrev pub IsRoot : Follow
IsRoot o = IsName o ⊎ Is (tok.Word word.This) o

pub begins_root : Begins root IsRoot
begins_root x us r (inl d) = inl (begins_name x us r d)
begins_root x us r (inr d) = inr (begins_token (tok.Word word.This) x.at us r d.1)

name_is_this : (x y : NameAt) (us vs r s : Tokens) → name x us → Token (tok.Word word.This) y.at vs
    → us ++ r ≡ vs ++ s → ⊥
name_is_this x y us vs r s d e same =
    let all : name_token x ∷ r ≡ record { kind = tok.Word word.This; at = y.at } ∷ s = sym (ap (λ l. l ++ r) d) ∙ same
    ∙ ap (λ l. l ++ s) e in
    let heads : name_token x ≡ record { kind = tok.Word word.This; at = y.at } = cc in
    let kinds : tok.Name x.name ≡ tok.Word word.This = ap (λ (l : Lexeme). l.kind) heads in cc

pub unique_root : Unique root Always
unique_root x y us vs r s (inl d) (inl e) same t u = unique_name x y us vs r s d e same t u
unique_root x y us vs r s (inl d) (inr e) same t u = absurd (name_is_this x y us vs r s d e.1 same)
unique_root x y us vs r s (inr d) (inl e) same t u = absurd (name_is_this y x vs us s r e d.1 (sym same))
unique_root x y us vs r s (inr d) (inr e) same t u =
    let o = unique_at (tok.Word word.This) x.at y.at us vs r s d.1 e.1 same t u in
    (ap (λ n. record { name = n; at = x.at }) (d.0 ∙ sym e.0) ∙ ap (λ a. record { name = y.name; at = a }) o.0, o.1)

begins_step : Begins path_step (Is (tok.Sign sign.Dot))
begins_step x us r d = begins_both (TokenMark dot) (λ c. name) (Is dot) (begins_mark dot) (tt, x) us r d

unique_step : Unique path_step Always
unique_step = unique_as path_step (Both (TokenMark dot) name) Always (λ q. q.1) (λ y us d. ((tt, y), refl, d))
    (unique_then (TokenMark dot) name Always (unique_mark dot) unique_name)

pub unique_path : Unique path (Isnt (tok.Sign sign.Dot))
unique_path = unique_as path (Both root (one_by_one path_step)) (Isnt dot) path_of
    (λ y us d. ((y.root, y.steps), refl, d))
    (unique_both root (one_by_one path_step) Always (Isnt dot) (λ y us r d f. tt) unique_root
    (unique_each path_step (Isnt dot) Always (λ x us r d. tt) (λ o f. tt)
    (apart_by path_step (Is dot) (Isnt dot) (is_isnt dot) begins_step) unique_step))

pub begins_path : Begins path IsRoot
begins_path x us r d = begins_both root (λ c. one_by_one path_step) IsRoot begins_root (x.root, x.steps) us r d
