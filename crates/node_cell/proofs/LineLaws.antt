-- How long the lines of a schedule are, and a text from a place on.
use Rattle.std.proofs.Common.{◌≡◌, ℕ, ◌+◌, ◌<◌, ◌≤◌, List, length, drop, decimal, length-append, arith, get_or, drop-cons, add-one, None}
use Rattle.std.proofs.lemmas.List.{drop_all}
use Rattle.link_msg.specs.declared.message.LinkMsg.{LinkMsg}
use Rattle.node_step.specs.declared.input.NodeInput.TheVariants.{Opened, Piece, Hung, From}
use Rattle.schedule_text.specs.Printed.{argument_text, event_text, saying_line, saying_text, value_text, values_text}
use Rattle.schedule_text.specs.Text.{spelling_of, text_of}
use Rattle.schedule_text.specs.Words.{said_by, word_text}
use Rattle.mur_base.specs.Names.{short_name_fault}
use Rattle.std.proofs.lemmas.Bool.Decides.{nat_tests}
use Rattle.node_cell.specs.Lines.{event_of, line_length}

pub opened-length : (name : List ℕ) (conn : ℕ) → line_length name (Opened conn) ≡ 7 + length name + length (decimal conn)
unfolding line_length event_of event_text said_by saying_text saying_line values_text argument_text value_text word_text
opened-length name conn = simp length-append (omega arith)

pub piece-length : (name : List ℕ) (conn : ℕ) (bytes : List ℕ) → line_length name (Piece conn bytes) ≡ 7 + length (decimal conn) + length (text_of bytes)
unfolding line_length event_of event_text said_by saying_text saying_line values_text argument_text value_text word_text
piece-length name conn bytes = simp length-append (omega arith)

pub hung-length : (name : List ℕ) (conn : ℕ) → line_length name (Hung conn) ≡ 6 + length (decimal conn)
unfolding line_length event_of event_text said_by saying_text saying_line values_text argument_text value_text word_text
hung-length name conn = simp length-append (omega arith)

pub from-length : (name sender : List ℕ) (message : LinkMsg) → line_length name (From sender message) ≡ 10 + length sender + length name
unfolding line_length event_of event_text said_by saying_text saying_line values_text argument_text value_text word_text
from-length name sender message = simp length-append (omega arith)

pub text-from : (bytes : List ℕ) (at : ℕ) → at < length bytes
    → length (text_of (drop at bytes)) ≡ length (spelling_of (get_or bytes at 0)) + length (text_of (drop (at + 1) bytes))
unfolding text_of
text-from bytes at h = rw (add-one, drop-cons bytes at 0) (length-append (spelling_of (get_or bytes at 0)) _)

pub text-end : (bytes : List ℕ) (at : ℕ) → length bytes ≤ at → length (text_of (drop at bytes)) ≡ 0
unfolding text_of
text-end bytes at h = rw (drop_all at bytes h)

pub ruleset by_length = (opened-length, piece-length, hung-length, from-length, text-from, text-end)

-- a node's name is short
pub name_short : (name : List ℕ) → short_name_fault name ≡ None → length name ≤ 64
unfolding short_name_fault
name_short name ruled = grind (arith, nat_tests)
