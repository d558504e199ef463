-- What clients of one store read for the lines that they send, in turn (RFC 9051, 2.2).
use Rattle.std.specs.Prelude.{◌≡◌, ℕ, List, [], ◌∷◌, ◌++◌, map, codes}
use Rattle.std.specs.List.{fold}
use Prim.Native.String.{String}
use Rattle.mur_base.specs.Ascii.{crlf}
use Rattle.imap_wire.specs.declared.frame.Frame.TheVariants.{Whole}
use Rattle.mur_model.specs.declared.session.Sess.{Sess}
use Rattle.mur_model.specs.declared.session.Sess.TheVariants.{Off}
use Rattle.mur_model.specs.declared.setting.Setting.{Setting}
use Rattle.mur_model.specs.declared.store.Store.{Store}
use Rattle.mur_model.specs.Answer.{Answered, answer_of}
use Rattle.imap_reply.specs.ByeLine.{bye_line}
use Rattle.imap_reply.specs.Continuation.{continuation_line}
use Rattle.imap_talk.specs.declared.inputs.Before.{Before}
use Rattle.imap_talk.specs.declared.inputs.Given.{Given}
use Rattle.imap_talk.specs.declared.inputs.Input.{Input}
use Rattle.imap_talk.specs.declared.inputs.Input.TheVariants.{GoesOn, Asks, Faults}
use Rattle.imap_talk.specs.FaultBye.{bye_of}
use Rattle.imap_talk.specs.Inputs.{at_first, input_at}
use Rattle.imap_talk.specs.Transcript.{answer_text}

-- there are two clients
pub data Who : Type 0 where
  one : Who
  other : Who

-- a client: what is before its next frame, and its session
pub record Client : Type 0 where
  pub before : Before
  pub session : Sess

-- a client that has just connected
abbrev pub newcomer : Client
newcomer = record { before = at_first; session = Off }

-- users and a date, the store, the UIDVALIDITY of the mailbox that a CREATE makes, and the clients
pub record Scene : Type 0 where
  pub setting : Setting
  pub store : Store
  pub serial : ℕ
  pub first_client : Client
  pub second_client : Client

abbrev pub client_of : Scene → Who → Client
client_of scene one = scene.first_client
client_of scene other = scene.second_client

abbrev pub with_client : Scene → Who → Client → Scene
with_client scene one client = record scene { first_client = client }
with_client scene other client = record scene { second_client = client }

-- the scene after a frame, and the bytes that its client is sent
pub record Told : Type 0 where
  pub scene : Scene
  pub bytes : List ℕ

abbrev pub told_answer : Scene → Who → Before → Answered → Told
told_answer scene who next answered = record {
  scene = with_client (record scene { store = answered.store }) who (record { before = next; session = answered.session });
  bytes = answer_text answered.answer;
}

abbrev pub told_by : Scene → Who → Sess → Before → Input → Told
told_by scene who session next (GoesOn why) =
    record { scene = with_client scene who (record { before = next; session = session }); bytes = continuation_line why }
told_by scene who session next (Asks request) = told_answer scene who next (answer_of scene.setting scene.store session request scene.serial)
told_by scene who session next (Faults fault) = record { scene = scene; bytes = bye_line (bye_of fault) }

abbrev pub told_given : Scene → Who → Sess → Given → Told
told_given scene who session given = told_by scene who session given.next given.input

abbrev pub told_client : Scene → Who → List ℕ → Client → Told
told_client scene who frame client = told_given scene who client.session (input_at scene.setting client.before (Whole frame))

-- a client sends a frame
abbrev pub told : Scene → Who → List ℕ → Told
told scene who frame = told_client scene who frame (client_of scene who)

-- the scene after some frames, and for each the bytes that its client was sent
pub record Talked : Type 0 where
  pub scene : Scene
  pub bytes : List (List ℕ)

abbrev pub talked_on : List (List ℕ) → Told → Talked
talked_on bytes it = record { scene = it.scene; bytes = bytes ++ it.bytes ∷ [] }

-- a client sends a text and CRLF
abbrev pub Line : Type 0
Line = Who × String

abbrev pub says : Talked → Line → Talked
says talked line = talked_on talked.bytes (told talked.scene line.0 (codes line.1 ++ crlf))

abbrev pub talk : Scene → List Line → Talked
talk scene said = fold says (record { scene = scene; bytes = [] }) said

-- the scene after some lines
abbrev pub after : Scene → List Line → Scene
after scene said = (talk scene said).scene

-- texts, each with CRLF after it
abbrev pub lines : List String → List ℕ
lines [] = []
lines (text ∷ texts) = codes text ++ crlf ++ lines texts

-- a line of a client, and the lines that it then reads
pub record Exchange : Type 0 where
  pub said : Line
  pub read : List String

abbrev pub first : String → List String → Exchange
first text read = record { said = (one, text); read = read }

abbrev pub second : String → List String → Exchange
second text read = record { said = (other, text); read = read }

-- to each line, one after another, its client is sent exactly the lines beside it
abbrev pub IsTalk : Scene → List Exchange → Type 0
IsTalk scene exchanges = (talk scene (map (λ (it : Exchange). it.said) exchanges)).bytes ≡ map (λ (it : Exchange). lines it.read) exchanges

-- the same of one line of the first client, which is this text and CRLF
abbrev pub IsAnsweredTo : Scene → List ℕ → List String → Type 0
IsAnsweredTo scene text read = (told scene one (text ++ crlf)).bytes ≡ lines read

abbrev pub IsAnswered : Scene → String → List String → Type 0
IsAnswered scene text read = IsAnsweredTo scene (codes text) read
