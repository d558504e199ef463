-- A row of the table of words, read: a line is read as an event exactly where it spells it and the event may follow.
use Rattle.std.proofs.Common.{◌≡◌, ℕ, ◌^◌, ◌<◌, ◌≤◌, Bool, true, false, cond, nat_le, List, [], ◌∷◌, ◌++◌, length, map, Option, Some, Ok, Err}
use Rattle.std.proofs.Common.{refl, sym, ap, ◌∙◌, subst, length-append, arith}
use Rattle.std.proofs.lemmas.Bool.{le-leb, leb-true}
use Rattle.mur_base.specs.Number.{number_of}
use Rattle.mur_config.specs.Nodes.{are_linked}
use Rattle.mur_config.specs.declared.config.Config.{Config}
use Rattle.mur_config.specs.declared.node.Link.{Link}
use Rattle.schedule_text.specs.Brings.{steps_of, bytes_brought}
use Rattle.schedule_text.specs.declared.event.Event.{Event}
use Rattle.schedule_text.specs.declared.event.Event.TheVariants.{Open, Data, Hang, Deliver, Flow, Cut, Join, Crash, Arm, Start, Heal}
use Rattle.schedule_text.specs.declared.schedule.fault.Rule.TheVariants.{BadNumber, UnknownNode, Connection}
use Rattle.schedule_text.specs.declared.schedule.rows.TheConstants.{FLOW_LIMIT}
use Rattle.schedule_text.specs.declared.words.Word.{Word}
use Rattle.schedule_text.specs.declared.words.Word.TheVariants.{Open as open_word, Data as data_word, Hang as hang_word, Deliver as deliver_word, Cut as cut_word, Join as join_word, Flow as flow_word, Heal as heal_word}
use Rattle.schedule_text.specs.MayFollow.{Opens, MayFollow}
use Rattle.schedule_text.specs.Rows.{event_in, flow_count, text_in}
use Rattle.schedule_text.specs.Schedule.{event_of}
use Rattle.schedule_text.specs.ScheduleFits.{HasConnNumber}
use Rattle.schedule_text.specs.ScheduleNodes.{node_in, client_node_in, takes_clients, link_in}
use Rattle.schedule_text.specs.ScheduleOpened.{is_opened, opened_before, unopened}
use Rattle.schedule_text.specs.ScheduleWords.{split_word, arguments_in, number_of_word}
use Rattle.schedule_text.specs.Spelled.{IsWord, AreArguments, IsLineOf, IsSpelledAs, IsSpelledBy}
use Rattle.schedule_text.specs.Text.{bytes_of}
use Rattle.schedule_text.specs.Words.{Value, Saying, row, said_by, word_text, kinds_of, word_named}
use Rattle.schedule_text.specs.Words.Value.{a_node, a_number, a_text}
use Rattle.schedule_text.proofs.ArgumentsLaws.{is_split, split_read, behind_word, AreOfKinds, none_of_kind, one_of_kind, two_of_kinds, four_of_kinds, are_cut}
use Rattle.schedule_text.proofs.ArgumentsLaws.{spaced, AllSpell, none_spells, one_spells, two_spell, four_spell, are_arguments, kind_of, EndsWithText, are_read}
use Rattle.schedule_text.proofs.ArgumentsLaws.{number_spelled, number_low, number_read}
use Rattle.schedule_text.proofs.HighBytes.{lacks_below}
use Rattle.schedule_text.proofs.WordLaws.{is_row, named_is}
use Rattle.schedule_text.specs.declared.words.Kind.TheVariants.{Node, Number, Text}
use Rattle.schedule_text.proofs.FollowLaws.{is_client_node, client_node_read, are_linked_nodes, link_read, opens_in, opens_not, opened_in, none_opens}
use Rattle.schedule_text.proofs.Shortens.{some_text, text_shortens}
use Rattle.schedule_text.proofs.Steps.{both, kept_if, kept_true}

client_node_is : (config : Config) (name node : List ℕ) → client_node_in config name ≡ Ok node → name ≡ node
unfolding client_node_in
client_node_is config name node h =
    let there = both (node_in config name) _ node h in
    kept_if (takes_clients there.0.kind) name node UnknownNode there.2

link_is : (config : Config) (from to : List ℕ) (link : Link) → link_in config from to ≡ Ok link → record { from = from; to = to } ≡ link
unfolding link_in
link_is config from to link h =
    let sender = both (node_in config from) _ link h in
    let taker = both (node_in config to) _ link sender.2 in
    kept_if (are_linked sender.0 taker.0) (record { from = from; to = to }) link UnknownNode taker.2

-- a count within the limit
record IsCount (word : List ℕ) (count : ℕ) : Type 0 where
  read : number_of_word word ≡ Ok count
  within : count ≤ FLOW_LIMIT

count_is : (word : List ℕ) (count : ℕ) → flow_count word ≡ Ok count → IsCount word count
unfolding flow_count
count_is word count h =
    let number = both (number_of_word word) _ count h in
    let low = leb-true number.0 FLOW_LIMIT (kept_true (nat_le number.0 FLOW_LIMIT) number.0 count BadNumber number.2) in
    subst (λ (n : ℕ). IsCount word n) (kept_if (nat_le number.0 FLOW_LIMIT) number.0 count BadNumber number.2)
    (record { read = number.1; within = low })

is_unopened : (before : List Event) (conn : ℕ) (done : Unit {0}) (b : Bool) → is_opened before conn ≡ b → unopened before conn ≡ Ok done
    → is_opened before conn ≡ false
unfolding unopened
is_unopened before conn done true e h = let none : cond true (Err Connection) (Ok tt) ≡ Ok done = rw e at h in cc
is_unopened before conn done false e h = e

is_there : (before : List Event) (conn : ℕ) (done : Unit {0}) (b : Bool) → is_opened before conn ≡ b → opened_before before conn ≡ Ok done
    → is_opened before conn ≡ true
unfolding opened_before
is_there before conn done true e h = e
is_there before conn done false e h = let none : cond false (Ok tt) (Err Connection) ≡ Ok done = rw e at h in cc

text_spelled : (text bytes : List ℕ) → text_in text ≡ Ok bytes → bytes_of text ≡ Some bytes
unfolding text_in
text_spelled text bytes h = some_text (bytes_of text) bytes h

-- the event that a word and arguments make: they say it, it may follow and weighs no more than they; a connection that it opens has a number of 64 bits
record IsMade (config : Config) (before : List Event) (word : Word) (arguments : List (List ℕ)) (event : Event) : Type 0 where
  values : List Value
  said : said_by event ≡ row word values
  spell : AllSpell arguments values
  follows : MayFollow config before event
  steps : steps_of event ≤ 2 ^ 32
  bytes : bytes_brought event ≤ length (spaced arguments)
  conn : HasConnNumber event

open_made : (config : Config) (before : List Event) (node number : List ℕ) (event : Event) → IsWord node
    → event_in config before open_word (node ∷ number ∷ []) ≡ Ok event → IsMade config before open_word (node ∷ number ∷ []) event
unfolding event_in said_by AllSpell MayFollow steps_of bytes_brought
open_made config before node number event word h =
    let conn = both (number_of_word number) _ event h in
    let name = both (client_node_in config node) _ event conn.2 in
    let new = both (unopened before conn.0) _ event name.2 in
    let same = client_node_is config node name.0 name.1 in
    let made : Open name.0 conn.0 ≡ event = cc in
    subst (λ (e : Event). IsMade config before open_word (node ∷ number ∷ []) e) made (record {
      values = a_node name.0 ∷ a_number conn.0 ∷ [];
      said = refl;
      spell = ((same, word), (number_spelled number conn.0 conn.1, tt));
      follows = (
        is_client_node config name.0 name.0 (subst (λ (n : List ℕ). client_node_in config n ≡ Ok name.0) same name.1),
        opens_not conn.0 before (is_unopened before conn.0 new.0 _ refl new.1),
      );
      steps = omega arith;
      bytes = omega arith;
      conn = number_low number conn.0 (number_spelled number conn.0 conn.1);
    })

data_made : (config : Config) (before : List Event) (number text : List ℕ) (event : Event)
    → event_in config before data_word (number ∷ text ∷ []) ≡ Ok event → IsMade config before data_word (number ∷ text ∷ []) event
unfolding event_in said_by AllSpell spaced MayFollow steps_of bytes_brought
data_made config before number text event h =
    let conn = both (number_of_word number) _ event h in
    let there = both (opened_before before conn.0) _ event conn.2 in
    let bytes = both (text_in text) _ event there.2 in
    let made : Data conn.0 bytes.0 ≡ event = cc in
    subst (λ (e : Event). IsMade config before data_word (number ∷ text ∷ []) e) made (record {
      values = a_number conn.0 ∷ a_text bytes.0 ∷ [];
      said = refl;
      spell = (number_spelled number conn.0 conn.1, (text_spelled text bytes.0 bytes.1, tt));
      follows = opens_in before conn.0 (is_there before conn.0 there.0 _ refl there.1);
      steps = omega arith;
      bytes = omega (arith, text_shortens text bytes.0 bytes.1, length-append number (32 ∷ text ++ []), length-append text []);
      conn = tt;
    })

hang_made : (config : Config) (before : List Event) (number : List ℕ) (event : Event)
    → event_in config before hang_word (number ∷ []) ≡ Ok event → IsMade config before hang_word (number ∷ []) event
unfolding event_in said_by AllSpell MayFollow steps_of bytes_brought
hang_made config before number event h =
    let conn = both (number_of_word number) _ event h in
    let there = both (opened_before before conn.0) _ event conn.2 in
    let made : Hang conn.0 ≡ event = cc in
    subst (λ (e : Event). IsMade config before hang_word (number ∷ []) e) made (record {
      values = a_number conn.0 ∷ [];
      said = refl;
      spell = (number_spelled number conn.0 conn.1, tt);
      follows = opens_in before conn.0 (is_there before conn.0 there.0 _ refl there.1);
      steps = omega arith;
      bytes = omega arith;
      conn = tt;
    })

deliver_made : (config : Config) (before : List Event) (from to : List ℕ) (event : Event) → IsWord from → IsWord to
    → event_in config before deliver_word (from ∷ to ∷ []) ≡ Ok event → IsMade config before deliver_word (from ∷ to ∷ []) event
unfolding event_in said_by AllSpell MayFollow steps_of bytes_brought
deliver_made config before from to event sender taker h =
    let link = both (link_in config from to) _ event h in
    let same = link_is config from to link.0 link.1 in
    let made : Deliver link.0.from link.0.to ≡ event = cc in
    let named : Deliver from to ≡ event = ap (λ (l : Link). Deliver l.from l.to) same ∙ made in
    subst (λ (e : Event). IsMade config before deliver_word (from ∷ to ∷ []) e) named (record {
      values = a_node from ∷ a_node to ∷ [];
      said = refl;
      spell = ((refl, sender), ((refl, taker), tt));
      follows = are_linked_nodes config from to link.0 link.1;
      steps = omega arith;
      bytes = omega arith;
      conn = tt;
    })

cut_made : (config : Config) (before : List Event) (one other to from : List ℕ) (event : Event) → IsWord one → IsWord other
    → event_in config before cut_word (one ∷ other ∷ to ∷ from ∷ []) ≡ Ok event → IsMade config before cut_word (one ∷ other ∷ to ∷ from ∷ []) event
unfolding event_in said_by AllSpell MayFollow steps_of bytes_brought
cut_made config before one other to from event is also h =
    let kept = both (number_of_word to) _ event h in
    let back = both (number_of_word from) _ event kept.2 in
    let link = both (link_in config one other) _ event back.2 in
    let same = link_is config one other link.0 link.1 in
    let made : Cut link.0.from link.0.to kept.0 back.0 ≡ event = cc in
    let named : Cut one other kept.0 back.0 ≡ event = ap (λ (l : Link). Cut l.from l.to kept.0 back.0) same ∙ made in
    subst (λ (e : Event). IsMade config before cut_word (one ∷ other ∷ to ∷ from ∷ []) e) named (record {
      values = a_node one ∷ a_node other ∷ a_number kept.0 ∷ a_number back.0 ∷ [];
      said = refl;
      spell = ((refl, is), ((refl, also), (number_spelled to kept.0 kept.1, (number_spelled from back.0 back.1, tt))));
      follows = are_linked_nodes config one other link.0 link.1;
      steps = omega arith;
      bytes = omega arith;
      conn = tt;
    })

join_made : (config : Config) (before : List Event) (one other : List ℕ) (event : Event) → IsWord one → IsWord other
    → event_in config before join_word (one ∷ other ∷ []) ≡ Ok event → IsMade config before join_word (one ∷ other ∷ []) event
unfolding event_in said_by AllSpell MayFollow steps_of bytes_brought
join_made config before one other event is also h =
    let link = both (link_in config one other) _ event h in
    let same = link_is config one other link.0 link.1 in
    let made : Join link.0.from link.0.to ≡ event = cc in
    let named : Join one other ≡ event = ap (λ (l : Link). Join l.from l.to) same ∙ made in
    subst (λ (e : Event). IsMade config before join_word (one ∷ other ∷ []) e) named (record {
      values = a_node one ∷ a_node other ∷ [];
      said = refl;
      spell = ((refl, is), ((refl, also), tt));
      follows = are_linked_nodes config one other link.0 link.1;
      steps = omega arith;
      bytes = omega arith;
      conn = tt;
    })

flow_made : (config : Config) (before : List Event) (number : List ℕ) (event : Event)
    → event_in config before flow_word (number ∷ []) ≡ Ok event → IsMade config before flow_word (number ∷ []) event
unfolding event_in said_by AllSpell MayFollow steps_of bytes_brought
flow_made config before number event h =
    let count = both (flow_count number) _ event h in
    let is = count_is number count.0 count.1 in
    let made : Flow count.0 ≡ event = cc in
    subst (λ (e : Event). IsMade config before flow_word (number ∷ []) e) made (record {
      values = a_number count.0 ∷ [];
      said = refl;
      spell = (number_spelled number count.0 is.read, tt);
      follows = omega (arith, is.within);
      steps = omega (arith, is.within);
      bytes = omega arith;
      conn = tt;
    })

heal_made : (config : Config) (before : List Event) (event : Event) → event_in config before heal_word [] ≡ Ok event → IsMade config before heal_word [] event
unfolding event_in said_by AllSpell MayFollow steps_of bytes_brought
heal_made config before event h =
    let made : Heal ≡ event = cc in
    subst (λ (e : Event). IsMade config before heal_word [] e) made
    (record { values = []; said = refl; spell = tt; follows = tt; steps = omega arith; bytes = omega arith; conn = tt })

event_made : (config : Config) (before : List Event) (word : Word) (arguments : List (List ℕ)) (event : Event) → AreOfKinds (kinds_of word) arguments
    → event_in config before word arguments ≡ Ok event → IsMade config before word arguments event
unfolding kinds_of
event_made config before open_word arguments event fit =
    two_of_kinds Node Number (λ a. event_in config before open_word a ≡ Ok event → IsMade config before open_word a event)
    (λ node number is also. open_made config before node number event is) arguments fit
event_made config before data_word arguments event fit =
    two_of_kinds Number Text (λ a. event_in config before data_word a ≡ Ok event → IsMade config before data_word a event)
    (λ number text is also. data_made config before number text event) arguments fit
event_made config before hang_word arguments event fit =
    one_of_kind Number (λ a. event_in config before hang_word a ≡ Ok event → IsMade config before hang_word a event)
    (λ number is. hang_made config before number event) arguments fit
event_made config before deliver_word arguments event fit =
    two_of_kinds Node Node (λ a. event_in config before deliver_word a ≡ Ok event → IsMade config before deliver_word a event)
    (λ from to is also. deliver_made config before from to event is also) arguments fit
event_made config before cut_word arguments event fit =
    four_of_kinds Node Node Number Number (λ a. event_in config before cut_word a ≡ Ok event → IsMade config before cut_word a event)
    (λ one other to from is also kept kept_back. cut_made config before one other to from event is also) arguments fit
event_made config before join_word arguments event fit =
    two_of_kinds Node Node (λ a. event_in config before join_word a ≡ Ok event → IsMade config before join_word a event)
    (λ one other is also. join_made config before one other event is also) arguments fit
event_made config before heal_word arguments event fit =
    none_of_kind (λ a. event_in config before heal_word a ≡ Ok event → IsMade config before heal_word a event) (heal_made config before event) arguments fit
event_made config before flow_word arguments event fit =
    one_of_kind Number (λ a. event_in config before flow_word a ≡ Ok event → IsMade config before flow_word a event)
    (λ number is. flow_made config before number event) arguments fit

-- an event that is read from a line: it is spelled there, may follow those before it and weighs no more than the line; a connection that it opens has a
-- number of 64 bits
pub record IsReadFrom (config : Config) (before : List Event) (line : List ℕ) (event : Event) : Type 0 where
  pub spelled : IsSpelledBy line event
  pub follows : MayFollow config before event
  pub steps : steps_of event ≤ 2 ^ 32
  pub bytes : bytes_brought event ≤ length line
  pub conn : HasConnNumber event

pub event_is : (config : Config) (before : List Event) (line : List ℕ) (event : Event) → event_of config before line ≡ Ok event
    → IsReadFrom config before line event
unfolding event_of
event_is config before line event h =
    let word = both (word_named (split_word line).word) _ event h in
    let arguments = both (arguments_in (kinds_of word.0) (split_word line).rest) _ event word.2 in
    let cut = are_cut (kinds_of word.0) (split_word line).rest arguments.0 arguments.1 in
    let made = event_made config before word.0 arguments.0 event cut.fit arguments.2 in
    let spelled : IsLineOf line (record { word = word.0; values = made.values }) =
    record {
      rest = (split_word line).rest;
      spelled =
          (is_split line).parts
          ∙ ap (λ (w : List ℕ). w ++ (split_word line).rest) (named_is (split_word line).word word.0 word.1);
      arguments =
          subst (λ (rest : List ℕ). AreArguments rest made.values) (sym cut.parts) (are_arguments arguments.0 made.values made.spell);
    } in
    record {
      spelled = subst (λ (s : Option Saying). IsSpelledAs line s) (sym made.said) spelled;
      follows = made.follows;
      steps = made.steps;
      bytes =
          omega (arith, made.bytes, ap length cut.parts, ap length (is_split line).parts, length-append (split_word line).word (split_word line).rest);
      conn = made.conn;
    }

-- the arguments of a line, whatever events stand before it
record HasArguments (line : List ℕ) (saying : Saying) : Type 0 where
  arguments : List (List ℕ)
  spell : AllSpell arguments saying.values
  read : (config : Config) (before : List Event) → event_of config before line ≡ event_in config before saying.word arguments

arguments_of : (line : List ℕ) (saying : Saying) → IsLineOf line saying → EndsWithText saying.values → map kind_of saying.values ≡ kinds_of saying.word
    → HasArguments line saying
unfolding event_of
arguments_of line saying is ends kinds =
    let split = ap split_word is.spelled
    ∙ split_read (word_text saying.word) is.rest (lacks_below 33 32 (omega arith) (word_text saying.word) (is_row saying.word).from) (behind_word is.rest saying.values is.arguments) in
    let cut = are_read is.rest saying.values is.arguments ends in
    let read : arguments_in (kinds_of saying.word) is.rest ≡ Ok cut.arguments = ap (λ k. arguments_in k is.rest) (sym kinds) ∙ cut.read in
    record { arguments = cut.arguments; spell = cut.spell; read = λ config before. rw (split, (is_row saying.word).named, read) refl }

there_read : (before : List Event) (conn : ℕ) → Opens conn before → opened_before before conn ≡ Ok tt
unfolding opened_before
there_read before conn h = rw (opened_in conn before h) refl

new_read : (before : List Event) (conn : ℕ) → (Opens conn before → ⊥) → unopened before conn ≡ Ok tt
unfolding unopened
new_read before conn h = rw (none_opens conn before h) refl

text_read : (text bytes : List ℕ) → bytes_of text ≡ Some bytes → text_in text ≡ Ok bytes
unfolding text_in
text_read text bytes h = rw h refl

count_read : (word : List ℕ) (count : ℕ) → number_of word ≡ Some count → count < 2 ^ 32 → flow_count word ≡ Ok count
unfolding flow_count
count_read word count h low = rw (number_read word count h, le-leb count FLOW_LIMIT (omega (arith, low))) refl

open_read : (config : Config) (before : List Event) (arguments : List (List ℕ)) (node : List ℕ) (conn : ℕ)
    → AllSpell arguments (a_node node ∷ a_number conn ∷ []) → MayFollow config before (Open node conn)
    → event_in config before open_word arguments ≡ Ok (Open node conn)
unfolding MayFollow event_in
open_read config before arguments node conn spell may =
    two_spell (a_node node) (a_number conn) (λ a. event_in config before open_word a ≡ Ok (Open node conn)) (λ name number is value.
    (let there = ap (client_node_in config) is.0 ∙ client_node_read config node may.0 in
    rw (number_read number conn value, there, new_read before conn may.1) refl))
    arguments spell

data_read : (config : Config) (before : List Event) (arguments : List (List ℕ)) (conn : ℕ) (bytes : List ℕ)
    → AllSpell arguments (a_number conn ∷ a_text bytes ∷ []) → MayFollow config before (Data conn bytes)
    → event_in config before data_word arguments ≡ Ok (Data conn bytes)
unfolding MayFollow event_in
data_read config before arguments conn bytes spell may =
    two_spell (a_number conn) (a_text bytes) (λ a. event_in config before data_word a ≡ Ok (Data conn bytes))
    (λ number text value is. rw (number_read number conn value, there_read before conn may, text_read text bytes is) refl) arguments spell

hang_read : (config : Config) (before : List Event) (arguments : List (List ℕ)) (conn : ℕ) → AllSpell arguments (a_number conn ∷ [])
    → MayFollow config before (Hang conn) → event_in config before hang_word arguments ≡ Ok (Hang conn)
unfolding MayFollow event_in
hang_read config before arguments conn spell may =
    one_spells (a_number conn) (λ a. event_in config before hang_word a ≡ Ok (Hang conn))
    (λ number value. rw (number_read number conn value, there_read before conn may) refl) arguments spell

deliver_read : (config : Config) (before : List Event) (arguments : List (List ℕ)) (from to : List ℕ) → AllSpell arguments (a_node from ∷ a_node to ∷ [])
    → MayFollow config before (Deliver from to) → event_in config before deliver_word arguments ≡ Ok (Deliver from to)
unfolding MayFollow event_in
deliver_read config before arguments from to spell may =
    two_spell (a_node from) (a_node to) (λ a. event_in config before deliver_word a ≡ Ok (Deliver from to)) (λ one other is also.
    (let link = ap (λ (f : List ℕ). link_in config f other) is.0 ∙ ap (link_in config from) also.0 ∙ link_read config from to may in
    rw link refl))
    arguments spell

cut_read : (config : Config) (before : List Event) (arguments : List (List ℕ)) (one other : List ℕ) (kept kept_back : ℕ)
    → AllSpell arguments (a_node one ∷ a_node other ∷ a_number kept ∷ a_number kept_back ∷ []) → MayFollow config before (Cut one other kept kept_back)
    → event_in config before cut_word arguments ≡ Ok (Cut one other kept kept_back)
unfolding MayFollow event_in
cut_read config before arguments one other kept kept_back spell may =
    four_spell (a_node one) (a_node other) (a_number kept) (a_number kept_back)
    (λ a. event_in config before cut_word a ≡ Ok (Cut one other kept kept_back)) (λ first second to from is also value back.
    (let link = ap (λ (f : List ℕ). link_in config f second) is.0 ∙ ap (link_in config one) also.0 ∙ link_read config one other may in
    rw (number_read to kept value, number_read from kept_back back, link) refl))
    arguments spell

join_read : (config : Config) (before : List Event) (arguments : List (List ℕ)) (one other : List ℕ) → AllSpell arguments (a_node one ∷ a_node other ∷ [])
    → MayFollow config before (Join one other) → event_in config before join_word arguments ≡ Ok (Join one other)
unfolding MayFollow event_in
join_read config before arguments one other spell may =
    two_spell (a_node one) (a_node other) (λ a. event_in config before join_word a ≡ Ok (Join one other)) (λ first second is also.
    (let link = ap (λ (f : List ℕ). link_in config f second) is.0 ∙ ap (link_in config one) also.0 ∙ link_read config one other may in
    rw link refl))
    arguments spell

flow_read : (config : Config) (before : List Event) (arguments : List (List ℕ)) (count : ℕ) → AllSpell arguments (a_number count ∷ [])
    → MayFollow config before (Flow count) → event_in config before flow_word arguments ≡ Ok (Flow count)
unfolding MayFollow event_in
flow_read config before arguments count spell may =
    one_spells (a_number count) (λ a. event_in config before flow_word a ≡ Ok (Flow count))
    (λ number value. rw (count_read number count value may) refl) arguments spell

heal_read : (config : Config) (before : List Event) (arguments : List (List ℕ)) → AllSpell arguments [] → event_in config before heal_word arguments ≡ Ok Heal
unfolding event_in
heal_read config before arguments spell = none_spells (λ a. event_in config before heal_word a ≡ Ok Heal) refl arguments spell

-- a line that spells an event which may follow is read as it
pub event_read : (config : Config) (before : List Event) (line : List ℕ) (event : Event) → IsSpelledBy line event → MayFollow config before event
    → event_of config before line ≡ Ok event
unfolding said_by kinds_of EndsWithText
event_read config before line (Open node conn) is may =
    let has = arguments_of line _ is tt refl in has.read config before ∙ open_read config before has.arguments node conn has.spell may
event_read config before line (Data conn bytes) is may =
    let has = arguments_of line _ is refl refl in has.read config before ∙ data_read config before has.arguments conn bytes has.spell may
event_read config before line (Hang conn) is may =
    let has = arguments_of line _ is tt refl in has.read config before ∙ hang_read config before has.arguments conn has.spell may
event_read config before line (Deliver from to) is may =
    let has = arguments_of line _ is tt refl in has.read config before ∙ deliver_read config before has.arguments from to has.spell may
event_read config before line (Flow count) is may =
    let has = arguments_of line _ is tt refl in has.read config before ∙ flow_read config before has.arguments count has.spell may
event_read config before line (Cut one other kept kept_back) is may =
    let has = arguments_of line _ is tt refl in has.read config before ∙ cut_read config before has.arguments one other kept kept_back has.spell may
event_read config before line (Join one other) is may =
    let has = arguments_of line _ is tt refl in has.read config before ∙ join_read config before has.arguments one other has.spell may
event_read config before line (Crash node image kept) is may = absurd is
event_read config before line (Arm node call image kept) is may = absurd is
event_read config before line (Start node) is may = absurd is
event_read config before line Heal is may =
    let has = arguments_of line _ is tt refl in has.read config before ∙ heal_read config before has.arguments has.spell
