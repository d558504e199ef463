-- The event that a word and its arguments make, by the first rule that they break: numbers, then nodes, then connections, then texts.
use Rattle.std.specs.Prelude.{ℕ, nat_le, if◌then◌else◌, List, [], ◌∷◌, Result, Ok, Err}
use Rattle.std.specs.Option.{ok_or}
use Rattle.mur_config.specs.declared.config.Config.{Config}
use Rattle.schedule_text.specs.declared.event.Event.{Event}
use Rattle.schedule_text.specs.declared.event.Event.TheVariants.{Open, Data, Hang, Deliver, Cut, Join, Flow, Heal}
use Rattle.schedule_text.specs.declared.schedule.fault.Rule.{Rule}
use Rattle.schedule_text.specs.declared.schedule.fault.Rule.TheVariants.{WrongCount, BadNumber, BadText}
use Rattle.schedule_text.specs.declared.schedule.rows.TheConstants.{FLOW_LIMIT}
use Rattle.schedule_text.specs.declared.words.Word.{Word}
use Rattle.schedule_text.specs.declared.words.Word.TheVariants.{Open as open_word, Data as data_word, Hang as hang_word, Deliver as deliver_word, Cut as cut_word, Join as join_word, Flow as flow_word, Heal as heal_word}
use Rattle.schedule_text.specs.Text.{bytes_of}
use Rattle.schedule_text.specs.ScheduleNodes.{client_node_in, link_in}
use Rattle.schedule_text.specs.ScheduleOpened.{opened_before, unopened}
use Rattle.schedule_text.specs.ScheduleRules.{◌>>=◌}
use Rattle.schedule_text.specs.ScheduleWords.{number_of_word}

-- the bytes that a text spells
unfoldable pub text_in : List ℕ → Result (List ℕ) Rule
text_in text = ok_or (bytes_of text) BadText

-- the number of deliveries that a word is
unfoldable pub flow_count : List ℕ → Result ℕ Rule
flow_count word = do
  count ← number_of_word word
  if nat_le count FLOW_LIMIT then Ok count else Err BadNumber

-- `before` are the events of the lines before
unfoldable pub event_in : Config → List Event → Word → List (List ℕ) → Result Event Rule
event_in config before open_word (node ∷ number ∷ []) = do
  conn ← number_of_word number
  name ← client_node_in config node
  new ← unopened before conn
  Ok (Open name conn)
event_in config before data_word (number ∷ text ∷ []) = do
  conn ← number_of_word number
  open_there ← opened_before before conn
  bytes ← text_in text
  Ok (Data conn bytes)
event_in config before hang_word (number ∷ []) = do
  conn ← number_of_word number
  open_there ← opened_before before conn
  Ok (Hang conn)
event_in config before deliver_word (from ∷ to ∷ []) = do
  link ← link_in config from to
  Ok (Deliver link.from link.to)
event_in config before cut_word (one ∷ other ∷ to ∷ from ∷ []) = do
  kept ← number_of_word to
  kept_back ← number_of_word from
  link ← link_in config one other
  Ok (Cut link.from link.to kept kept_back)
event_in config before join_word (one ∷ other ∷ []) = do
  link ← link_in config one other
  Ok (Join link.from link.to)
event_in config before flow_word (number ∷ []) = do
  count ← flow_count number
  Ok (Flow count)
event_in config before heal_word [] = Ok Heal
event_in config before word arguments = Err WrongCount
