-- A frontend answers a request of a connection by itself: the client is given the reply, and it is that of the one store.
use Rattle.std.proofs.Common.{◌≡◌, ℕ, ◌+◌, List, [], ◌∷◌, ◌++◌, length, Some, refl, sym, ◌∙◌, ap, subst, arith, length-append}
use Rattle.std.specs.Ordering.{nat_cmp}
use Rattle.front_core.specs.declared.connection.Connection.{Connection}
use Rattle.feed_core.specs.declared.replica.Replica.{Replica}
use Rattle.imap_talk.specs.declared.inputs.Input.{Input}
use Rattle.imap_types.specs.declared.command.Tag.{Tag}
use Rattle.imap_types.specs.declared.reply.Reply.{Reply}
use Rattle.imap_types.specs.declared.request.Request.{Request}
use Rattle.imap_types.specs.declared.request.Request.TheVariants.{Command as a_command, Unknown as unknown, TooBig as too_big}
use Rattle.link_msg.specs.declared.how.How.{How}
use Rattle.link_msg.specs.declared.how.How.TheVariants.{Here}
use Rattle.link_msg.specs.declared.out.Out.{Out}
use Rattle.link_msg.specs.declared.out.Out.TheVariants.{Client as to_client, Close, Told as tell}
use Rattle.mark_history.specs.Marked.{CanAct, Tale, acting, done, telling}
use Rattle.mark_history.specs.declared.mark.MarkKind.TheVariants.{Told}
use Rattle.mark_history.proofs.TakenBack.{list_at, list_elsewhere}
use Rattle.mur_base.specs.Map.{with_value}
use Rattle.mur_base.specs.declared.point.AskId.{AskId}
use Rattle.mur_base.proofs.MapLaws.{numbers_apart, value_at-with_value-other}
use Rattle.mur_model.specs.Act.{MayAct, need_of}
use Rattle.mur_model.specs.Answer.{Answered, MayTake, NeedsNoStore, answer_of}
use Rattle.mur_model.specs.History.{numbered}
use Rattle.mur_model.specs.Needed.{Mailbox, Names, Needed, NeedsNothing, Refusal, Turned}
use Rattle.mur_model.specs.declared.session.Sess.{Sess}
use Rattle.mur_model.specs.declared.setting.Setting.{Setting}
use Rattle.mur_model.specs.declared.store.Store.{Store}
use Rattle.mur_model.proofs.HistoryGrows.{same_lists}
use Rattle.cluster_core.specs.declared.world.Client.{Client}
use Rattle.cluster_core.specs.declared.world.World.{World}
use Rattle.cluster_core.specs.World.{carry, carry_all, client_at, given_more, marked}
use Rattle.cluster_core.proofs.Commands.AllReached.{AreMarkedSo, tells_at_once}
use Rattle.cluster_core.proofs.Commands.Standing.{Fixed}
use Rattle.cluster_core.proofs.Connections.ConnectionLaw.{GoesOnAt, IsMade, KeepsOthers, ReadsOn, client_with, keeps_on, session_of_other, stories_follow}
use Rattle.cluster_core.proofs.Connections.Tales.{list_more, others_marked}

-- ---- what is carried out

pub carry_all-append : (node : List ℕ) (world : World) (one two : List Out) → carry_all node world (one ++ two) ≡ carry_all node (carry_all node world one) two
unfolding carry_all
carry_all-append node world [] two = refl
carry_all-append node world (out ∷ one) two = carry_all-append node (carry node world out) one two

-- a client that is there is given more
abbrev pub given_world : World → ℕ → Client → List ℕ → World
given_world world conn client text = record world { clients = with_value nat_cmp world.clients conn (record client { given = client.given ++ text }) }

given_there : (world : World) (conn : ℕ) (client : Client) (text : List ℕ) → client_at world conn ≡ Some client
    → given_more world conn text (client_at world conn) ≡ given_world world conn client text
unfolding given_more
given_there world conn client text at = ap (given_more world conn text) at

-- and is told so of its command
abbrev pub marked_world : World → AskId → How → World
marked_world world ask how = marked world ask (Told how)

pub answer_carried : (node : List ℕ) (world : World) (conn : ℕ) (client : Client) (text : List ℕ) (ask : AskId) (how : How) → client_at world conn ≡ Some client
    → carry_all node world (to_client conn text ∷ tell ask how ∷ []) ≡ marked_world (given_world world conn client text) ask how
unfolding carry_all carry
answer_carried node world conn client text ask how at = ap (λ w. marked_world w ask how) (given_there world conn client text at)

pub last_carried : (node : List ℕ) (world : World) (conn : ℕ) (client : Client) (text : List ℕ) (ask : AskId) (how : How) → client_at world conn ≡ Some client
    → carry_all node world (to_client conn text ∷ tell ask how ∷ Close conn ∷ []) ≡ marked_world (given_world world conn client text) ask how
unfolding carry_all carry
last_carried node world conn client text ask how at = ap (λ w. marked_world w ask how) (given_there world conn client text at)

pub line_carried : (node : List ℕ) (world : World) (conn : ℕ) (client : Client) (text : List ℕ) → client_at world conn ≡ Some client
    → carry_all node world (to_client conn text ∷ []) ≡ given_world world conn client text
unfolding carry_all carry
line_carried node world conn client text at = given_there world conn client text at

pub end_carried : (node : List ℕ) (world : World) (conn : ℕ) (client : Client) (text : List ℕ) → client_at world conn ≡ Some client
    → carry_all node world (to_client conn text ∷ Close conn ∷ []) ≡ given_world world conn client text
unfolding carry_all carry
end_carried node world conn client text at = given_there world conn client text at

pub given_keeps : (fixed : Fixed) (world : World) (conn : ℕ) (client : Client) (text : List ℕ)
    → KeepsOthers fixed conn world (given_world world conn client text)
given_keeps fixed world conn client text = record {
  nodes = refl;
  broken = refl;
  steps = refl;
  clients = λ other ne. value_at-with_value-other nat_cmp numbers_apart world.clients conn other (record client { given = client.given ++ text }) ne;
  places = λ other ne. record { in_place = λ front replica command here is. is; in_none = λ is. is };
  marks = λ other ne command. refl;
}

pub marked_keeps : (fixed : Fixed) (conn : ℕ) (world : World) (ask : AskId) (how : How) → ask.conn ≡ conn
    → KeepsOthers fixed conn world (marked_world world ask how)
marked_keeps fixed conn world ask how its = record {
  nodes = refl;
  broken = refl;
  steps = refl;
  clients = λ other ne. refl;
  places = λ other ne. record { in_place = λ front replica command here is. is; in_none = λ is. is };
  marks = λ other ne. others_marked other world.marks (record { step = world.steps; ask = ask; kind = Told how }) (λ e. ne (sym e ∙ its));
}

-- ---- the tale of that

abbrev pub said_tale : Setting → Tale → ℕ → Request → Tale
said_tale setting tale conn request = telling (acting setting tale conn request 0) conn (done setting tale conn request 0).answer

pub said_goes_on : (setting : Setting) (story : Tale) (conn : ℕ) (request : Request) → story.talk.answers conn ≡ story.told conn
    → GoesOnAt conn story (said_tale setting story conn request)
said_goes_on setting story conn request unreplied = record {
  requests = refl;
  said = λ other ne. list_elsewhere story.talk.answers conn _ other ne;
  grows = omega (
    arith,
    ap length unreplied,
    ap length (list_at story.talk.answers conn (story.told conn ++ (done setting story conn request 0).answer ∷ [])),
    length-append (story.told conn) ((done setting story conn request 0).answer ∷ []),
  );
  told = λ other ne. list_elsewhere story.told conn _ other ne;
  sessions = λ other ne. session_of_other story.course.sessions conn _ other ne;
  before = λ other ne. session_of_other story.before conn _ other ne;
  more = record {
    requests = same_lists story.talk.requests;
    answers = list_more story.told conn (done setting story conn request 0).answer;
    serials = list_more story.talk.serials conn 0;
    moving = refl;
  };
}

-- the store answers so, and stays as it was
abbrev pub IsAnsweredSo : Setting → Sess → Request → Tag → Reply → Sess → Type 0
IsAnsweredSo setting was request tag reply session = (store : Store)
    → answer_of setting store was request 0 ≡ record { store = store; session = session; answer = record { tag = tag; reply = reply } }

module _ (setting : Setting) (story : Tale) (conn : ℕ) (request : Request) (tag : Tag) (reply : Reply) (session : Sess)
    (is : IsAnsweredSo setting (story.course.sessions conn) request tag reply session) where
  pub told_one : (said_tale setting story conn request).told conn ≡ story.told conn ++ (record { tag = tag; reply = reply }) ∷ []
  told_one = list_at story.told conn _ ∙ ap (λ (a : Answered). story.told conn ++ a.answer ∷ []) (is story.course.store)

  pub said_one : (said_tale setting story conn request).talk.answers conn ≡ story.told conn ++ (record { tag = tag; reply = reply }) ∷ []
  said_one = list_at story.talk.answers conn _ ∙ ap (λ (a : Answered). story.told conn ++ a.answer ∷ []) (is story.course.store)

  pub counted_one : length ((said_tale setting story conn request).told conn) ≡ length (story.told conn) + 1
  counted_one = ap length told_one ∙ length-append (story.told conn) ((record { tag = tag; reply = reply }) ∷ [])

-- what needs nothing of the store may be taken
may_act : (store : Store) (serial : ℕ) (need : Needed) → NeedsNothing need → MayAct store serial need
unfolding MayAct NeedsNothing
may_act store serial (Refusal verdict) alone = tt
may_act store serial (Turned turn) alone = tt
may_act store serial (Mailbox name work) alone = absurd alone
may_act store serial (Names it) alone = absurd alone

may_take : (setting : Setting) (store : Store) (session : Sess) (request : Request) (serial : ℕ) → NeedsNoStore setting session request
    → MayTake setting store session request serial
unfolding MayTake NeedsNoStore
may_take setting store session (a_command tag it) serial alone = may_act store serial (need_of setting session it) alone
may_take setting store session (unknown tag) serial alone = tt
may_take setting store session (too_big tag) serial alone = tt

-- one answer more is that of the one store
pub said_made : (fixed : Fixed) (front : List ℕ) (replica : Replica) (conn : ℕ) (inputs : List Input) (connection : Connection) (before : World)
    (told : Tale) (world : World) (request : Request) (tag : Tag) (reply : Reply) (session : Sess) (text : List ℕ)
    (was : ReadsOn fixed front replica conn inputs connection before told world)
    → numbered (was.story.talk.requests conn) (length (was.story.told conn) + 1) ≡ Some request
    → IsAnsweredSo fixed.setting (was.story.course.sessions conn) request tag reply session
    → NeedsNoStore fixed.setting (was.story.course.sessions conn) request
    → IsMade fixed conn before told
    (marked_world (given_world world conn (client_with front inputs (was.story.told conn)) text) (record { conn = conn; command = connection.answered + 1 }) Here)
    (said_tale fixed.setting was.story conn request)
said_made fixed front replica conn inputs connection before told world request tag reply session text was number is alone =
    let story = was.story in
    let client : Client = client_with front inputs (story.told conn) in
    let given : World = given_world world conn client text in
    let ask : AskId = record { conn = conn; command = connection.answered + 1 } in
    let after_world : World = marked_world given ask Here in
    let now : Tale = said_tale fixed.setting story conn request in
    let can : CanAct fixed.setting story conn request 0 = record {
      unreplied = was.reading.said;
      asked = number;
      free = may_take fixed.setting story.course.store (story.course.sessions conn) request 0 alone;
    } in
    record {
      others = keeps_on fixed conn before world after_world was.made.others
          (keeps_on fixed conn world given after_world (given_keeps fixed world conn client text) (marked_keeps fixed conn given ask Here refl));
      goes_on = stories_follow conn told story now was.made.goes_on (said_goes_on fixed.setting story conn request was.reading.said);
      store = ap (λ (a : Answered). a.store) (is story.course.store) ∙ was.made.store;
      is_told = subst (λ n. AreMarkedSo fixed.setting world.broken world.steps
          (world.marks ++ (record { step = world.steps; ask = record { conn = conn; command = n + 1 }; kind = Told Here }) ∷ []) now)
          (sym was.reading.count)
          (tells_at_once world.steps world.marks story conn request 0 can alone was.made.is_told);
    }
