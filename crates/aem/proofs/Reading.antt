-- From texts and tokens to programs.
use Rattle.std.proofs.Common.{◌≡◌, ℕ, List, sym, subst}
use Rattle.ae_text.specs.declared.refusal.Deny.{Deny}
use Rattle.ae_text.specs.declared.refusal.Deny.TheVariants as d
use Rattle.ae_text.specs.declared.token.Token.{Token}
use Rattle.ae_text.specs.Tokens.{Lexes}
use Rattle.ae_text.specs.Tokens.{IsTextDenied}
use Rattle.ae_tree.specs.Refused.{IsTokenDenied as ParserDenies}
use Rattle.std.proofs.Common.{Option}
use Rattle.aem.specs.declared.answer.What.{What}
use Rattle.aem.specs.declared.answer.What.TheVariants as w
use Rattle.std.proofs.Common.{Result, Ok}
use Rattle.aem.specs.declared.answer.Command.{Command}
use Rattle.aem.specs.declared.answer.UsageKind.{UsageKind}
use Rattle.aem.specs.Words.{command_of}
use Rattle.aem.specs.Top.{denial, IsUnread, IsWholeText, NoTokens, NoProgram, Whole, IsAnswer, IsDone, ByCommand, Caused}

pub denied : (text : List ℕ) (e : Deny) → IsTextDenied text e → IsUnread text e
denied text (d.Refused r) f = λ command. NoTokens (f.0, f.1, f.2)
denied text d.Memory f = tt

-- a token that is refused is so in each text with these tokens
pub unparsed : (text : List ℕ) (tokens : List Token) (e : Deny) → Lexes text tokens → ParserDenies tokens e
    → IsUnread text e
unparsed text tokens (d.Refused r) l u = λ command. NoProgram (tokens, l, u)
unparsed text tokens d.Memory l u = tt

-- a text that gives no program is answered so in each mode
pub unread : (command : Command) (text : List ℕ) (e : Deny) → IsUnread text e → IsAnswer command text (denial e)
unread command text (d.Refused r) u = u command
unread command text d.Memory u = tt

-- an answer to a whole text has its cause
done_whole : (command : Command) (taken : List ℕ) (left : Option (List ℕ)) (what : What) → IsWholeText taken left
    → IsAnswer command taken what → IsDone command taken left what
done_whole command taken left (w.Usage kind) t a = absurd a
done_whole command taken left w.ReadFault t a = absurd a
done_whole command taken left (w.Refused r) t a = Whole t a
done_whole command taken left w.Checked t a = (t, a)
done_whole command taken left (w.Graph graph) t a = (t, a)
done_whole command taken left (w.Ran report) t a = (t, a)
done_whole command taken left w.Memory t a = tt

-- a command's answer has its cause in the words
by_words : (words : List (List ℕ)) (command : Command) (taken : List ℕ) (left : Option (List ℕ)) (what : What)
    → command_of words ≡ Ok command → IsDone command taken left what → ByCommand (command_of words) taken left what
by_words words command taken left what e d = let P : Result Command UsageKind → Type 0 =
    λ r. ByCommand r taken left what in subst P (sym e) d

pub done_caused : (words : List (List ℕ)) (command : Command) (taken : List ℕ) (left : Option (List ℕ)) (what : What)
    → command_of words ≡ Ok command → IsDone command taken left what → Caused words taken left what
done_caused words command taken left (w.Usage kind) e d = absurd d
done_caused words command taken left w.ReadFault e d = by_words words command taken left w.ReadFault e d
done_caused words command taken left (w.Refused r) e d = by_words words command taken left (w.Refused r) e d
done_caused words command taken left w.Checked e d = by_words words command taken left w.Checked e d
done_caused words command taken left (w.Graph graph) e d = by_words words command taken left (w.Graph graph) e d
done_caused words command taken left (w.Ran report) e d = by_words words command taken left (w.Ran report) e d
done_caused words command taken left w.Memory e d = tt

pub caused : (words : List (List ℕ)) (command : Command) (taken : List ℕ) (left : Option (List ℕ)) (what : What)
    → command_of words ≡ Ok command → IsWholeText taken left → IsAnswer command taken what
    → Caused words taken left what
caused words command taken left what e t a = done_caused words command taken left what e
    (done_whole command taken left what t a)
