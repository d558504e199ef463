-- What a frontend knows stays in each of its steps, but for its replica where the master tells it a line.
use Rattle.std.proofs.Common.{◌≡◌, ◌≢◌, ℕ, nat_eq, Bool, true, false, List, [], ◌∷◌, codes, Option, None, Some, refl, sym, ap, subst, ◌∙◌, if◌then◌else◌}
use Rattle.std.specs.Map.{keys_of}
use Rattle.std.specs.Cmp.Lexicographic.{pointwise, same_text}
use Rattle.ask_routes.specs.Barrier.{barrier_answered, ok_ask, ok_under}
use Rattle.feed_core.specs.declared.replica.Replica.{Replica}
use Rattle.feed_core.specs.Feed.{replica_after}
use Rattle.feed_core.specs.Stream.{heard, heard_by, is_update_tag}
use Rattle.feed_links.specs.Replicas.{hears}
use Rattle.feed_links.proofs.Names.{other_name, same_name}
use Rattle.front_core.specs.declared.connection.Connection.{Connection}
use Rattle.front_core.specs.declared.connection.Stage.{Stage}
use Rattle.front_core.specs.declared.connection.Stage.TheVariants.{Reading, Waits, Lists, Ended}
use Rattle.front_core.specs.declared.front.Front.{Front}
use Rattle.front_core.specs.Front.{all_end, answer_at, answer_from, awaited, bytes_by, bytes_in, connect, connect_at, connection_at, deliver, end_at, end_from, end_if, front_bytes_at, front_hang_at, hang}
use Rattle.front_core.specs.Front.{line_by, line_from, ok_at, one_ends, up_from, waits_for, with_up, without_up}
use Rattle.front_core.specs.Ups.{Ups, coming_up, going_down}
use Rattle.link_msg.specs.declared.answer.BackAnswer.{BackAnswer}
use Rattle.link_msg.specs.declared.message.LinkMsg.{LinkMsg}
use Rattle.link_msg.specs.declared.message.LinkMsg.TheVariants.{Up, End, Line, Ask, Answer}
use Rattle.mupdate_codec.specs.declared.command.MResponse.{MResponse}
use Rattle.mupdate_codec.specs.declared.command.MResponse.TheVariants as response
use Rattle.mupdate_codec.specs.declared.tag.Tag.{Tag}
use Rattle.mupdate_codec.specs.declared.tag.Tag.TheVariants.{Star, Text}
use Rattle.mupdate_codec.specs.Asks.{ask_id_of, split_dash}
use Rattle.mupdate_codec.specs.Whole.{response_in}
use Rattle.mur_base.specs.declared.point.AskId.{AskId}
use Rattle.node_step.specs.declared.input.NodeInput.{NodeInput}
use Rattle.node_step.specs.declared.input.NodeInput.TheVariants.{Opened, Piece, Hung, From}
use Rattle.cluster_core.proofs.Nodes.Comes.{front_does}

-- all but its replica and its connections
pub record KeepsSelf (was now : Front) : Type 0 where
  pub me : now.me ≡ was.me
  pub master : now.master ≡ was.master
  pub first : now.first ≡ was.first
  pub setting : now.setting ≡ was.setting

pub record KeepsKnown (was now : Front) : Type 0 where
  pub self : KeepsSelf was now
  pub replica : now.replica ≡ was.replica

pub same_self : (front : Front) → KeepsSelf front front
same_self front = record { me = refl; master = refl; first = refl; setting = refl }

pub same_known : (front : Front) → KeepsKnown front front
same_known front = record { self = same_self front; replica = refl }

-- ---- clients

pub connect_known : (front : Front) (conn : ℕ) → KeepsKnown front (connect front conn).front
unfolding connect connect_at
connect_known front conn = by (connection_at front conn)
  where
    by : (found : Option Connection) → KeepsKnown front (connect_at front conn found).front
    by None = record { self = record { me = refl; master = refl; first = refl; setting = refl }; replica = refl }
    by (Some there) = same_known front

bytes_by_known : (front : Front) (conn : ℕ) (bytes : List ℕ) (connection : Connection) (stage : Stage)
    → KeepsKnown front (bytes_by front conn bytes connection stage).front
unfolding bytes_by
bytes_by_known front conn bytes connection Ended = same_known front
bytes_by_known front conn bytes connection Reading = record { self = record { me = refl; master = refl; first = refl; setting = refl }; replica = refl }
bytes_by_known front conn bytes connection (Waits tag it) = record { self = record { me = refl; master = refl; first = refl; setting = refl }; replica = refl }
bytes_by_known front conn bytes connection (Lists tag it) = record { self = record { me = refl; master = refl; first = refl; setting = refl }; replica = refl }

pub bytes_known : (front : Front) (conn : ℕ) (bytes : List ℕ) → KeepsKnown front (bytes_in front conn bytes).front
unfolding bytes_in front_bytes_at
bytes_known front conn bytes = by (connection_at front conn)
  where
    by : (found : Option Connection) → KeepsKnown front (front_bytes_at front conn bytes found).front
    by None = same_known front
    by (Some connection) = bytes_by_known front conn bytes connection connection.stage

pub hang_known : (front : Front) (conn : ℕ) → KeepsKnown front (hang front conn)
unfolding hang front_hang_at
hang_known front conn = by (connection_at front conn)
  where
    by : (found : Option Connection) → KeepsKnown front (front_hang_at front conn found)
    by None = same_known front
    by (Some connection) = record { self = record { me = refl; master = refl; first = refl; setting = refl }; replica = refl }

-- ---- messages of another node than the master

answer_at_known : (front : Front) (answer : BackAnswer) (found : Option Connection) → KeepsKnown front (answer_at front answer found).front
unfolding answer_at
answer_at_known front answer None = same_known front
answer_at_known front answer (Some connection) = record { self = record { me = refl; master = refl; first = refl; setting = refl }; replica = refl }

pub answer_known : (front : Front) (answer : BackAnswer) (is_asked : Bool) → KeepsKnown front (answer_from is_asked front answer).front
unfolding answer_from
answer_known front answer true = answer_at_known front answer (connection_at front (answer.id).conn)
answer_known front answer false = same_known front

-- with other links up
noted_known : (front : Front) (ups : Ups) → KeepsKnown front (record front { ups = ups })
noted_known front ups = record { self = record { me = refl; master = refl; first = refl; setting = refl }; replica = refl }

up_other : (front : Front) (from : List ℕ) (same : Bool) → same ≡ false → KeepsKnown front (up_from same (with_up front from)).front
unfolding up_from
up_other front from false e = noted_known front (coming_up front.ups from)
up_other front from true e = cc

end_known : (front : Front) (conn : ℕ) (found : Option Connection) (was : Front) → KeepsKnown was front → KeepsKnown was (end_at front conn found).front
unfolding end_at
end_known front conn None was known = known
end_known front conn (Some connection) was known = record {
  self = record { me = known.self.me; master = known.self.master; first = known.self.first; setting = known.self.setting };
  replica = known.replica;
}

if_known : (test : Bool) (front : Front) (conn : ℕ) (was : Front) → KeepsKnown was front → KeepsKnown was (end_if test front conn).front
if_known true front conn was known = end_known front conn (connection_at front conn) was known
if_known false front conn was known = known

all_known : (front : Front) (node : List ℕ) (conns : List ℕ) (was : Front) → KeepsKnown was front → KeepsKnown was (all_end front node conns).front
unfolding all_end
all_known front node [] was known = known
all_known front node (conn ∷ conns) was known =
    all_known (one_ends front node conn).front node conns was
    (if_known (awaited front.master (connection_at front conn) node) front conn was known)

line_other : (front : Front) (bytes : List ℕ) (same : Bool) → same ≡ false → KeepsKnown front (line_from same front bytes).front
unfolding line_from
line_other front bytes false e = same_known front
line_other front bytes true e = cc

-- a link to it ends
pub ends_known : (front : Front) (from : List ℕ) → KeepsKnown front (end_from (without_up front from) from).front
ends_known front from = all_known (without_up front from) from (keys_of front.connections) front (noted_known front (going_down front.ups from))

pub others_known : (front : Front) (from : List ℕ) (message : LinkMsg) → from ≢ front.master → KeepsKnown front (deliver front from message).front
unfolding deliver
others_known front from (Answer answer) ne = answer_known front answer (waits_for (connection_at front (answer.id).conn) from)
others_known front from Up ne = up_other front from (pointwise nat_eq from front.master) (other_name from front.master ne)
others_known front from End ne = ends_known front from
others_known front from (Line bytes) ne = line_other front bytes (pointwise nat_eq from front.master) (other_name from front.master ne)
others_known front from (Ask ask) ne = same_known front

-- ---- a line of the master

-- its replica hears it: a line that is the OK to a NOOP has another tag than a stream

update_tells_none : ask_id_of (Text (codes "u")) ≡ None
unfolding ask_id_of split_dash
update_tells_none = refl

pub no_update : (tag : Tag) (id : AskId) → ask_id_of tag ≡ Some id → is_update_tag tag ≡ false
no_update Star id told = refl
no_update (Text text) id told = by_test (pointwise nat_eq text (codes "u")) refl
  where
    by_test : (same : Bool) → pointwise nat_eq text (codes "u") ≡ same → same ≡ false
    by_test false e = refl
    by_test true e =
        let same : text ≡ codes "u" = same_text text (codes "u") (sym e) in
        let none : None ≡ Some id = sym update_tells_none ∙ subst (λ t. ask_id_of (Text t) ≡ Some id) same told in cc

ok_tag : (tag : Tag) (it : MResponse) (id : AskId) → ok_under tag it ≡ Some id → ask_id_of tag ≡ Some id
ok_tag tag (response.Ok text) id e = e
ok_tag tag (response.No text) id e = cc
ok_tag tag (response.Bad text) id e = cc
ok_tag tag (response.Reserve name place) id e = cc
ok_tag tag (response.Mailbox name place acl) id e = cc
ok_tag tag (response.Delete name) id e = cc

ok_unheard : (replica : Replica) (found : Option (Tag × MResponse)) (id : AskId) → ok_ask found ≡ Some id → heard_by replica found ≡ replica
unfolding heard_by
ok_unheard replica None id e = cc
ok_unheard replica (Some it) id e =
    ap (λ b. if b then replica_after replica it.1 else replica) (no_update it.0 id (ok_tag it.0 it.1 id e))

pub ok_is_unheard : (replica : Replica) (bytes : List ℕ) (id : AskId) → barrier_answered bytes ≡ Some id → heard replica bytes ≡ replica
unfolding barrier_answered heard
ok_is_unheard replica bytes id e = ok_unheard replica (response_in bytes) id e

pub record HearsLine (was now : Front) (bytes : List ℕ) : Type 0 where
  pub self : KeepsSelf was now
  pub replica : now.replica ≡ hears was.replica (Line bytes)

pub ok_known : (front : Front) (id : AskId) (found : Option Connection) → KeepsKnown front (ok_at front id found).front
unfolding ok_at
ok_known front id None = same_known front
ok_known front id (Some connection) = record { self = record { me = refl; master = refl; first = refl; setting = refl }; replica = refl }

by_answered : (front : Front) (bytes : List ℕ) (found : Option AskId) → barrier_answered bytes ≡ found → HearsLine front (line_by front bytes found).front bytes
by_answered front bytes None e = record { self = record { me = refl; master = refl; first = refl; setting = refl }; replica = refl }
by_answered front bytes (Some id) e =
    let known = ok_known front id (connection_at front id.conn) in
    record { self = known.self; replica = known.replica ∙ sym (ok_is_unheard front.replica bytes id e) }

line_heard : (front : Front) (bytes : List ℕ) (same : Bool) → same ≡ true → HearsLine front (line_from same front bytes).front bytes
unfolding line_from
line_heard front bytes true e = by_answered front bytes (barrier_answered bytes) refl
line_heard front bytes false e = cc

pub hears_line : (front : Front) (from bytes : List ℕ) → from ≡ front.master → HearsLine front (deliver front from (Line bytes)).front bytes
unfolding deliver
hears_line front from bytes is =
    line_heard front bytes (pointwise nat_eq from front.master) (ap (pointwise nat_eq from) (sym is) ∙ same_name from)

-- whatever comes, it stays the frontend that it is

up_self : (front : Front) (from : List ℕ) (same : Bool) → KeepsSelf front (up_from same (with_up front from)).front
unfolding up_from
up_self front from true = record { me = refl; master = refl; first = refl; setting = refl }
up_self front from false = record { me = refl; master = refl; first = refl; setting = refl }

line_self : (front : Front) (bytes : List ℕ) (same : Bool) → KeepsSelf front (line_from same front bytes).front
unfolding line_from
line_self front bytes true = (by_answered front bytes (barrier_answered bytes) refl).self
line_self front bytes false = same_self front

deliver_self : (front : Front) (from : List ℕ) (message : LinkMsg) → KeepsSelf front (deliver front from message).front
unfolding deliver
deliver_self front from (Answer answer) = (answer_known front answer (waits_for (connection_at front (answer.id).conn) from)).self
deliver_self front from Up = up_self front from (pointwise nat_eq from front.master)
deliver_self front from End = (ends_known front from).self
deliver_self front from (Line bytes) = line_self front bytes (pointwise nat_eq from front.master)
deliver_self front from (Ask ask) = same_self front

pub front_self : (front : Front) (input : NodeInput) → KeepsSelf front (front_does front input).front
front_self front (Opened conn) = (connect_known front conn).self
front_self front (Piece conn bytes) = (bytes_known front conn bytes).self
front_self front (Hung conn) = (hang_known front conn).self
front_self front (From name message) = deliver_self front name message
