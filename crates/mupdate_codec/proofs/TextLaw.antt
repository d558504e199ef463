-- How the arguments of a line are printed does not hang on its word.
use Rattle.std.proofs.Common.{◌≡◌, refl}
use Rattle.mupdate_codec.specs.declared.command.MCommand.{MCommand}
use Rattle.mupdate_codec.specs.declared.command.MResponse.{MResponse}
use Rattle.mupdate_codec.specs.declared.word.Verb.{Verb}
use Rattle.mupdate_codec.specs.declared.word.Verb.TheVariants as verb
use Rattle.mupdate_codec.specs.declared.word.Kind.{Kind}
use Rattle.mupdate_codec.specs.declared.word.Kind.TheVariants as kind
use Rattle.mupdate_codec.specs.Arguments.{exact}
use Rattle.mupdate_codec.specs.Commands as of_commands
use Rattle.mupdate_codec.specs.Responses as of_responses

pub command_text : (v : Verb) (it : MCommand) → (of_commands.command_arguments exact v).text it ≡ of_commands.command_arguments_text it
unfolding Rattle.mupdate_codec.specs.Commands.command_arguments
command_text verb.Activate it = refl
command_text verb.Deactivate it = refl
command_text verb.Delete it = refl
command_text verb.Find it = refl
command_text verb.List it = refl
command_text verb.Logout it = refl
command_text verb.Noop it = refl
command_text verb.Reserve it = refl
command_text verb.Update it = refl

pub response_text : (k : Kind) (it : MResponse) → (of_responses.response_arguments exact k).text it ≡ of_responses.response_arguments_text it
unfolding Rattle.mupdate_codec.specs.Responses.response_arguments
response_text kind.Bad it = refl
response_text kind.Delete it = refl
response_text kind.Mailbox it = refl
response_text kind.No it = refl
response_text kind.Ok it = refl
response_text kind.Reserve it = refl
