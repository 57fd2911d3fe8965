-- The form in which a task reports its errors.
use Rattle.std.specs.Prelude.{if◌then◌else◌, ◌&&◌, ◌||◌, Bool, true, false, not}
use Rattle.bp_source.specs.declared.tasks.Explaining.{Explaining}
use Rattle.bp_source.specs.declared.tasks.ErrorFormat.{ErrorFormat}
use Rattle.bp_source.specs.declared.tasks.ErrorFormat.TheVariants as error
use Rattle.bp_source.specs.declared.tasks.ListingForm.{ListingForm}
use Rattle.bp_source.specs.declared.tasks.ListingForm.TheVariants as listing
use Rattle.bp_source.specs.declared.tasks.Task.{Task}
use Rattle.bp_source.specs.declared.tasks.Task.TheVariants.{Bundle, Check, Code, Drive, Confirm, Run, Test, Explore, Replay, Show, Migrate, Shrink}
use Rattle.bp_source.specs.declared.options.ViewFormat.{ViewFormat}
use Rattle.bp_source.specs.declared.options.ViewFormat.TheVariants as view

-- lines explain the error after its line
abbrev pub is_explained : ErrorFormat → Bool
is_explained error.Explained = true
is_explained other = false

-- an error is explained on a standard error that is a terminal or not
abbrev pub explains : Explaining → (on_terminal : Bool) → Bool
explains x on_terminal = not x.never && (x.always || on_terminal)

-- errors are explained only on a terminal
abbrev pub on_terminals : Explaining
on_terminals = record { always = false; never = false }

-- the listing is JSON
abbrev pub is_listed_in_json : ListingForm → Bool
is_listed_in_json listing.Json = true
is_listed_in_json other = false

-- the view is JSON
abbrev pub is_viewed_in_json : ViewFormat → Bool
is_viewed_in_json view.Json = true
is_viewed_in_json view.Columns = false

-- whether a task reports its errors as JSON, and when it explains them
abbrev pub json_and_explaining : Task → Bool × Explaining
json_and_explaining Bundle = (false, on_terminals)
json_and_explaining (Check task) = (task.json, task.explain)
json_and_explaining (Code task) = (is_listed_in_json task.form, task.explain)
json_and_explaining (Drive task) = (false, task.explain)
json_and_explaining (Confirm task) = (task.json, task.explain)
json_and_explaining (Run task) = (false, task.explain)
json_and_explaining (Test task) = (task.json, task.explain)
json_and_explaining (Explore task) = (task.json, task.explain)
json_and_explaining (Replay task) = (false, task.explain)
json_and_explaining (Show task) = (is_viewed_in_json task.options.format, task.explain)
json_and_explaining (Migrate task) = (false, task.explain)
json_and_explaining (Shrink task) = (false, task.explain)

-- as JSON if asked for, and otherwise with their explanation if that is asked for
abbrev pub error_format : Task → (on_terminal : Bool) → ErrorFormat
error_format task on_terminal =
    let asked = json_and_explaining task in
    if asked.0 then error.Json
    else if explains asked.1 on_terminal then error.Explained
    else error.Line
