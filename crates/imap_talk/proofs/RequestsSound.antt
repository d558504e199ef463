-- Each request that a frame asks for is sound: it has a tag of the grammar, or `*`, and a command as the grammar reads it.
use Rattle.std.proofs.Common.{◌≡◌, ℕ, ◌<◌, ◌^◌, true, false, ◌&&◌, nat_le, List, [], ◌∷◌, length, Option, None, Some, sym, ap, subst, arith}
use Rattle.std.specs.List.{list_all}
use Rattle.std.proofs.lemmas.Bool.{and_parts}
use Rattle.imap_command.specs.Bad.{IsFirstTag}
use Rattle.imap_text.specs.Characters.{is_tag_byte}
use Rattle.imap_command.specs.Request.{IsRequest, IsTooBig, tag_or_star}
use Rattle.imap_command.specs.Request.IsRequest.{spells, spells_nothing}
use Rattle.imap_command.specs.Spells.{Spells, tags, tagged_command}
use Rattle.imap_command.proofs.RuledLaw.{spelled_ruled}
use Rattle.imap_types.specs.declared.command.Command.{Command}
use Rattle.imap_types.specs.declared.command.Tag.{Tag}
use Rattle.imap_types.specs.declared.command.Tag.TheVariants.{Text}
use Rattle.imap_types.specs.declared.request.Request.{Request}
use Rattle.imap_reply.specs.SoundTexts.{IsTag, IsSoundTag}
use Rattle.imap_talk.specs.SoundRequests.{IsSoundRequest}

whole_tag : (text : List ℕ) → tags.whole text ≡ true → IsTag text
whole_tag [] whole = absurd (let none : false ≡ true = whole in cc)
whole_tag (c ∷ text) whole =
    let all = list_all is_tag_byte (c ∷ text) in
    let short = nat_le (length (c ∷ text)) 32 in
    record { bytes = (and_parts all short (and_parts (all && short) true whole).0).0; some = omega arith }

spelled_tag : (frame : List ℕ) (tag : Tag) (it : Command) → Spells frame (tag, it) → IsSoundTag tag
unfolding tagged_command IsSoundTag
spelled_tag frame tag it spelled =
    let text : List ℕ = spelled.between in
    let is : tag ≡ Text text = ap (λ (pair : Tag × Command). pair.0) spelled.goes_on.goes_on.goes_on.1 in
    subst IsSoundTag (sym is) (whole_tag text spelled.begins.1)

first_tag_sound : (frame : List ℕ) (tag : Option Tag) → IsFirstTag frame tag → IsSoundTag (tag_or_star tag)
unfolding IsSoundTag
first_tag_sound frame None first = tt
first_tag_sound frame (Some tag) (text, rest, is, parts, whole) = subst IsSoundTag (sym is) (whole_tag text whole)

pub request_sound : (frame : List ℕ) (request : Request) → length frame < 2 ^ 64 → IsRequest frame request → IsSoundRequest request
request_sound frame _ fits (spells tag it spelled) = (spelled_tag frame tag it spelled, spelled_ruled (2 ^ 64) frame tag it spelled fits)
request_sound frame _ fits (spells_nothing tag none first) = first_tag_sound frame tag first

pub too_big_sound : (frame : List ℕ) (request : Request) → IsTooBig frame request → IsSoundRequest request
too_big_sound frame request big = subst IsSoundRequest (sym big.refused) (first_tag_sound frame big.tag big.first)
