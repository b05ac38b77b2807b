-- What the words of a command ask for.
use Rattle.std.specs.Prelude.{◌≡◌, ◌≢◌, ◌⊎◌, ℕ, ◌<◌, ◌≤◌, ◌==◌, ℤ, neg_ℤ, Bool, if◌then◌else◌, List, [], ◌∷◌, Option, Some, None, codes, drop, length, map, option_map, slice_index, unwrap_or}
use Rattle.std.specs.List.{slice_split}
use Rattle.std.specs.Str.Parse.{digits_value, AllDigits}
use Rattle.clap.specs.Words.{Row, Text, first_of, all_of, fault_of, subcommand_of}
use Rattle.std.specs.Borrow.{Bor}
use Rattle.pv_num.specs.Extended.{Extended}
use Rattle.pv_num.specs.Arithmetic.{ratio_of}
use Rattle.pv_num.specs.declared.num.End.TheVariants.{Down}
use Rattle.pv_box.specs.declared.choice.Bisector.{Bisector}
use Rattle.pv_box.specs.declared.choice.Bisector.TheVariants.{Largest, Round}
use Rattle.pv_tokens.specs.Numbers.{IsRead}
use Rattle.pv_words.specs.Commands.{paver_app}
use Rattle.pv_slope.specs.declared.form.Form.{Form}
use Rattle.pv_slope.specs.declared.form.Form.TheVariants.{Plain, Centered}
use Rattle.pv_scope.specs.declared.order.Order.{Order}
use Rattle.pv_scope.specs.declared.order.Order.TheVariants.{Depth, Level}
use Rattle.pv_scope.specs.declared.share.Share.{Share}
use Rattle.pv_tree.specs.declared.path.TheConstants.{MOST_STEPS}
use Rattle.pv_tree.specs.declared.limit.TheConstants.{LEAST_LIMIT, MOST_SETTLED, MOST_WORKERS}
use Rattle.pv_scope.specs.declared.share.TheConstants.{MOST_SHARES}
use Rattle.pv_request.specs.declared.request.TheConstants.{MOST_CIRCLES, MOST_SEED, MOST_ROUNDS, MOST_PAVINGS}
use Rattle.pv_request.specs.declared.request.Settings.{Settings}
use Rattle.pv_request.specs.declared.request.Effort.{Effort}
use Rattle.pv_request.specs.declared.request.Workers.{Workers}
use Rattle.pv_request.specs.declared.request.View.{View}
use Rattle.pv_request.specs.declared.request.Circles.{Circles}
use Rattle.pv_request.specs.declared.request.Search.{Search}
use Rattle.pv_request.specs.declared.request.Rounds.{Rounds}
use Rattle.pv_request.specs.declared.request.Request.{Request}
use Rattle.pv_request.specs.declared.request.Request.TheVariants.{Check, Run, Resume, Merge, Audit, Svg, Sample, Least, Campaign}
use Rattle.pv_request.specs.declared.refusal.Refusal.{Refusal}
use Rattle.pv_request.specs.declared.refusal.Refusal.TheVariants.{Usage, Memory}

-- one to ten digits, and the number that they write
pub record IsDigits (t : Text) (n : ℕ) : Type 0 where
  pub some : 1 ≤ length t
  pub few : length t ≤ 10
  pub digits : AllDigits 10 t
  pub value : n ≡ digits_value 10 t

-- such a number from `low` to `high`
pub record IsCount (low high : ℕ) (t : Text) (n : ℕ) : Type 0 where
  pub number : IsDigits t n
  pub from : low ≤ n
  pub to : n ≤ high

-- an unsigned number of the system's language, rounded down
pub record IsWidth (t : Text) (n : Extended) : Type 0 where
  pub ratio : ℤ × ℕ
  pub read : IsRead t ratio
  pub rounded : n ≡ ratio_of Down ratio.0 ratio.1

-- a minus before a number, and what stands behind it
abbrev pub has_minus : Text → Bool
has_minus t = slice_index t 0 == 45

abbrev pub behind_minus : Text → Text
behind_minus t = if has_minus t then drop 1 t else t

abbrev pub with_minus : Bool → ℤ → ℤ
with_minus minus p = if minus then neg_ℤ p else p

-- an unsigned number with or without a minus before it, rounded down
pub record IsLevel (t : Text) (n : Extended) : Type 0 where
  pub ratio : ℤ × ℕ
  pub read : IsRead (behind_minus t) ratio
  pub rounded : n ≡ ratio_of Down (with_minus (has_minus t) ratio.0) ratio.1

-- the words between commas
abbrev pub words_between : Text → List Text
words_between t = slice_split (λ c. c == 44) t

-- such a number for each word
abbrev pub AreLevels : List Text → List Extended → Type 0
AreLevels [] [] = Unit {0}
AreLevels [] (n ∷ ns) = ⊥
AreLevels (t ∷ ts) [] = ⊥
AreLevels (t ∷ ts) (n ∷ ns) = IsLevel t n × AreLevels ts ns

-- the words between slashes
abbrev pub words_by_slash : Text → List Text
words_by_slash t = slice_split (λ c. c == 47) t

-- two numbers with a slash between them, `number/of`: a share of the open leaves
pub record IsShare (t : Text) (s : Share) : Type 0 where
  pub number : Text
  pub of : Text
  pub words : words_by_slash t ≡ number ∷ of ∷ []
  pub number_is : IsDigits number s.number
  pub of_is : IsDigits of s.of
  pub less : s.number < s.of
  pub few : s.of ≤ MOST_SHARES

abbrev pub order_name : Order → Text
order_name Depth = codes "depth"
order_name Level = codes "level"

abbrev pub form_name : Form → Text
form_name Plain = codes "plain"
form_name Centered = codes "centered"

abbrev pub bisector_name : Bisector → Text
bisector_name Largest = codes "largest"
bisector_name Round = codes "round"

-- the text of an option, or what stands for one that is not given
abbrev pub value_of : Text → Text → List Row → Text
value_of name default rows = unwrap_or (first_of name rows) default

abbrev pub eps_text : List Row → Text
eps_text = value_of (codes "eps") (codes "0.125")

abbrev pub depth_text : List Row → Text
depth_text = value_of (codes "depth") (codes "60")

abbrev pub bisect_text : List Row → Text
bisect_text = value_of (codes "bisect") (codes "largest")

abbrev pub contract_text : List Row → Text
contract_text = value_of (codes "contract") (codes "prop(8)")

-- the form's name, or that of the form which a command has by itself
abbrev pub form_text : Form → List Row → Text
form_text usual = value_of (codes "form") (form_name usual)

abbrev pub limit_text : List Row → Text
limit_text = value_of (codes "limit") (codes "100000")

-- the number that it writes
abbrev pub limit_value : List Row → ℕ
limit_value rows = digits_value 10 (limit_text rows)

abbrev pub workers_text : List Row → Text
workers_text = value_of (codes "workers") (codes "4")

-- the budget of a command that has one by itself
abbrev pub usual_boxes : Text
usual_boxes = codes "20000"

-- the limit that is given is the budget of a command that begins anew
abbrev pub limit_or_usual : List Row → Text
limit_or_usual = value_of (codes "limit") usual_boxes

abbrev pub boxes_text : Text → List Row → Text
boxes_text usual = value_of (codes "boxes") usual

abbrev pub order_text : List Row → Text
order_text = value_of (codes "order") (codes "depth")

-- the settings that the options give of a command which has a form by itself
pub record AreSettings (usual : Form) (rows : List Row) (s : Settings) : Type 0 where
  pub eps : IsWidth (eps_text rows) s.eps
  pub depth : IsCount 1 MOST_STEPS (depth_text rows) s.depth
  pub bisector : bisect_text rows ≡ bisector_name s.bisector
  pub contract : s.contract.now ≡ contract_text rows
  pub form : form_text usual rows ≡ form_name s.form

-- the most settled nodes that a tree may have
abbrev pub IsNodeLimit : List Row → ℕ → Type 0
IsNodeLimit rows n = IsCount LEAST_LIMIT MOST_SETTLED (limit_text rows) n

-- the threads that the options give
abbrev pub AreWorkers : List Row → Workers → Type 0
AreWorkers rows w = IsCount 1 MOST_WORKERS (workers_text rows) w.count

-- the threads, the budget, the limit and the order that the options give of a command with this budget by itself
pub record IsEffort (usual : Text) (rows : List Row) (e : Effort) : Type 0 where
  pub limit : IsNodeLimit rows e.budget.limit
  pub workers : IsCount 1 MOST_WORKERS (workers_text rows) e.budget.workers
  pub boxes : IsCount 1 e.budget.limit (boxes_text usual rows) e.budget.nodes
  pub order : order_text rows ≡ order_name e.order

-- The share that the text of `--share` gives, and none where it isn't given. A share has an order of its own, so another one
-- is refused beside it.
abbrev pub IsShareIn : Order → Option Text → Option Share → Type 0
IsShareIn order None None = Unit {0}
IsShareIn order None (Some s) = ⊥
IsShareIn Depth (Some t) None = ⊥
IsShareIn Depth (Some t) (Some s) = IsShare t s
IsShareIn Level (Some t) share = ⊥

-- the text of `--share` gives none, or is given beside an order
abbrev pub HasNoShare : Order → Option Text → Type 0
HasNoShare order text = (share : Option Share) → IsShareIn order text share → ⊥

abbrev pub HasBadShare : List Row → Type 0
HasBadShare rows = (order : Order) → order_text rows ≡ order_name order → HasNoShare order (first_of (codes "share") rows)

-- the name of the system
abbrev pub system_name : List Row → Text
system_name = value_of (codes "SYSTEM") []

-- the names of the paving files
abbrev pub paving_names : List Row → List Text
paving_names rows = unwrap_or (all_of (codes "PAVING") rows) []

abbrev pub names_in : List (Bor Text) → List Text
names_in = map (λ name. name.now)

-- up to eight paving files
pub record ArePavings (rows : List Row) (names : List (Bor Text)) : Type 0 where
  pub are : names_in names ≡ paving_names rows
  pub few : length names ≤ MOST_PAVINGS

-- a name of the standard output
abbrev pub IsOutput : Text → Type 0
IsOutput name = (name ≡ codes "/dev/stdout") ⊎ ((name ≡ codes "/dev/fd/1") ⊎ (name ≡ codes "/proc/self/fd/1"))

-- nothing is stored under the system's own name, or on the standard output
abbrev pub IsTaken : Text → Text → Type 0
IsTaken system name = (name ≡ system) ⊎ IsOutput name

abbrev pub IsTakenIn : Text → Option Text → Type 0
IsTakenIn system None = ⊥
IsTakenIn system (Some name) = IsTaken system name

-- the file that is found for `--out`
pub record IsOutIn (system : Text) (found : Option Text) (out : Option (Bor Text)) : Type 0 where
  pub is : option_map (λ name. name.now) out ≡ found
  pub free : IsTakenIn system found → ⊥

abbrev pub IsOut : List Row → Option (Bor Text) → Type 0
IsOut rows out = IsOutIn (system_name rows) (first_of (codes "out") rows) out

-- the name of the file is taken
abbrev pub HasBadOut : List Row → Type 0
HasBadOut rows = IsTakenIn (system_name rows) (first_of (codes "out") rows)

-- the numbers of `--at`; none where it isn't given
abbrev pub AreLevelsIn : Option Text → List Extended → Type 0
AreLevelsIn None ns = ns ≡ []
AreLevelsIn (Some t) ns = AreLevels (words_between t) ns

abbrev pub AreGiven : List Row → List Extended → Type 0
AreGiven rows ns = AreLevelsIn (first_of (codes "at") rows) ns

-- the plane that the options give
pub record IsView (rows : List Row) (v : View) : Type 0 where
  pub x : v.x.now ≡ value_of (codes "x") [] rows
  pub y : v.y.now ≡ value_of (codes "y") [] rows
  pub at : AreGiven rows v.at.items

abbrev pub seed_text : List Row → Text
seed_text = value_of (codes "seed") []

abbrev pub count_text : List Row → Text
count_text = value_of (codes "count") []

-- the circles that the options give
pub record AreCircles (rows : List Row) (c : Circles) : Type 0 where
  pub seed : IsCount 0 MOST_SEED (seed_text rows) c.seed
  pub count : IsCount 1 MOST_CIRCLES (count_text rows) c.count

-- the expression, the budget and the limit that the options give
pub record IsSearch (rows : List Row) (s : Search) : Type 0 where
  pub of : s.of.now ≡ value_of (codes "of") [] rows
  pub limit : IsNodeLimit rows s.limit
  pub boxes : IsCount 1 s.limit (boxes_text (limit_or_usual rows) rows) s.boxes

abbrev pub rounds_text : List Row → Text
rounds_text = value_of (codes "rounds") (codes "1")

-- the campaign's name and the number of rounds that the options give
pub record IsRounds (rows : List Row) (r : Rounds) : Type 0 where
  pub name : r.name.now ≡ value_of (codes "keep") [] rows
  pub count : IsCount 1 MOST_ROUNDS (rounds_text rows) r.count

-- a number of `--at` has another spelling
abbrev pub HasBadLevels : List Row → Type 0
HasBadLevels rows = (ns : List Extended) → AreGiven rows ns → ⊥

-- a setting has another spelling, or is outside its range
pub data HasBadSetting (usual : Form) (rows : List Row) : Type 0 where
  bad_eps : ((n : Extended) → IsWidth (eps_text rows) n → ⊥) → HasBadSetting usual rows
  bad_depth : ((n : ℕ) → IsCount 1 MOST_STEPS (depth_text rows) n → ⊥) → HasBadSetting usual rows
  bad_bisector : ((b : Bisector) → bisect_text rows ≡ bisector_name b → ⊥) → HasBadSetting usual rows
  bad_form : ((f : Form) → form_text usual rows ≡ form_name f → ⊥) → HasBadSetting usual rows

-- so is the limit
abbrev pub HasBadLimit : List Row → Type 0
HasBadLimit rows = (n : ℕ) → IsNodeLimit rows n → ⊥

-- so is the number of threads
abbrev pub HasBadWorkers : List Row → Type 0
HasBadWorkers rows = (n : ℕ) → IsCount 1 MOST_WORKERS (workers_text rows) n → ⊥

-- so is the budget, which the limit bounds
abbrev pub HasBadBoxes : Text → List Row → Type 0
HasBadBoxes usual rows = (n : ℕ) → IsCount 1 (limit_value rows) (boxes_text usual rows) n → ⊥

-- so is the limit, the number of threads, the budget, or the order
pub data HasBadEffort (usual : Text) (rows : List Row) : Type 0 where
  bad_limit : HasBadLimit rows → HasBadEffort usual rows
  bad_workers : HasBadWorkers rows → HasBadEffort usual rows
  bad_boxes : HasBadBoxes usual rows → HasBadEffort usual rows
  bad_order : ((o : Order) → order_text rows ≡ order_name o → ⊥) → HasBadEffort usual rows

-- so is the limit or the budget of a search
abbrev pub HasBadBudget : List Row → Type 0
HasBadBudget rows = HasBadLimit rows ⊎ HasBadBoxes (limit_or_usual rows) rows

-- so is the number of rounds
abbrev pub HasBadRounds : List Row → Type 0
HasBadRounds rows = (n : ℕ) → IsCount 1 MOST_ROUNDS (rounds_text rows) n → ⊥

-- so is a number of a sample
pub data HasBadCircles (rows : List Row) : Type 0 where
  bad_seed : ((n : ℕ) → IsCount 0 MOST_SEED (seed_text rows) n → ⊥) → HasBadCircles rows
  bad_count : ((n : ℕ) → IsCount 1 MOST_CIRCLES (count_text rows) n → ⊥) → HasBadCircles rows

-- there are more than eight paving files
abbrev pub HasManyPavings : List Row → Type 0
HasManyPavings rows = MOST_PAVINGS < length (paving_names rows)

-- ---- The commands

abbrev pub run_name : Form → Text
run_name Plain = codes "run"
run_name Centered = codes "run-centered"

abbrev pub audit_name : Form → Text
audit_name Plain = codes "audit"
audit_name Centered = codes "audit-centered"

pub data Command : Type 0 where
  checks : Command
  runs : Form → Command
  resumes : Command
  merges : Command
  audits : Form → Command
  draws : Command
  samples : Command
  seeks : Command
  keeps : Command

abbrev pub name_of : Command → Text
name_of checks = codes "check"
name_of (runs form) = run_name form
name_of resumes = codes "resume"
name_of merges = codes "merge"
name_of (audits form) = audit_name form
name_of draws = codes "svg"
name_of samples = codes "sample"
name_of seeks = codes "least"
name_of keeps = codes "campaign"

-- a value is refused that the command takes
abbrev pub HasBadValueFor : Command → List Row → Type 0
HasBadValueFor checks rows = ⊥
HasBadValueFor (runs usual) rows = HasBadOut rows ⊎ (HasBadSetting usual rows ⊎ HasBadEffort (limit_or_usual rows) rows)
HasBadValueFor resumes rows = HasBadOut rows ⊎ (HasManyPavings rows ⊎ (HasBadSetting Plain rows ⊎ (HasBadEffort usual_boxes rows ⊎ HasBadShare rows)))
HasBadValueFor merges rows = HasBadOut rows ⊎ (HasManyPavings rows ⊎ (HasBadSetting Plain rows ⊎ HasBadLimit rows))
HasBadValueFor (audits usual) rows = HasBadSetting usual rows ⊎ (HasBadLimit rows ⊎ HasBadWorkers rows)
HasBadValueFor draws rows = HasBadLevels rows ⊎ (HasBadSetting Plain rows ⊎ HasBadLimit rows)
HasBadValueFor samples rows = HasBadCircles rows
HasBadValueFor seeks rows = HasBadSetting Plain rows ⊎ HasBadBudget rows
HasBadValueFor keeps rows = HasBadSetting Plain rows ⊎ (HasBadEffort usual_boxes rows ⊎ HasBadRounds rows)

-- so it is for the command of this name
pub record HasBadValue (name : Text) (rows : List Row) : Type 0 where
  pub command : Command
  pub named : name ≡ name_of command
  pub bad : HasBadValueFor command rows

-- the command has this name for one of the forms, which is then its own where the options give none
abbrev pub IsByForm : (Form → Text) → Text → List Row → Settings → Type 0
IsByForm names command rows s = (usual : Form) × ((command ≡ names usual) × AreSettings usual rows s)

-- the command of this name, with what was found for its words and options, asks for this
abbrev pub IsAskedBy : Text → List Row → Request → Type 0
IsAskedBy command rows (Check system) = (command ≡ codes "check") × (system.now ≡ system_name rows)
IsAskedBy command rows (Run system settings effort out) =
    IsByForm run_name command rows settings × (system.now ≡ system_name rows) × IsEffort (limit_or_usual rows) rows effort
    × IsOut rows out
IsAskedBy command rows (Resume system pavings settings effort share out) =
    (command ≡ codes "resume") × (system.now ≡ system_name rows) × ArePavings rows pavings.items × AreSettings Plain rows settings
    × IsEffort usual_boxes rows effort × IsShareIn effort.order (first_of (codes "share") rows) share × IsOut rows out
IsAskedBy command rows (Merge system pavings settings limit out) =
    (command ≡ codes "merge") × (system.now ≡ system_name rows) × ArePavings rows pavings.items × AreSettings Plain rows settings
    × IsNodeLimit rows limit × IsOut rows out
IsAskedBy command rows (Audit system paving settings limit workers) =
    IsByForm audit_name command rows settings × (system.now ≡ system_name rows) × (paving.now ≡ value_of (codes "PAVING") [] rows)
    × IsNodeLimit rows limit × AreWorkers rows workers
IsAskedBy command rows (Svg system paving settings limit view) =
    (command ≡ codes "svg") × (system.now ≡ system_name rows) × (paving.now ≡ value_of (codes "PAVING") [] rows)
    × AreSettings Plain rows settings × IsNodeLimit rows limit × IsView rows view
IsAskedBy command rows (Sample circles) = (command ≡ codes "sample") × AreCircles rows circles
IsAskedBy command rows (Least system settings search) =
    (command ≡ codes "least") × (system.now ≡ system_name rows) × AreSettings Plain rows settings × IsSearch rows search
IsAskedBy command rows (Campaign system settings effort rounds) =
    (command ≡ codes "campaign") × (system.now ≡ system_name rows) × AreSettings Plain rows settings × IsEffort usual_boxes rows effort
    × IsRounds rows rounds

abbrev pub IsAsked : Option (Text × List Row) → Request → Type 0
IsAsked None q = ⊥
IsAsked (Some p) q = IsAskedBy p.0 p.1 q

-- the words, of which the first is the program's name, ask for this
abbrev pub Asks : List Text → Request → Type 0
Asks words q = (fault_of paver_app words ≡ []) × IsAsked (subcommand_of paver_app words) q

abbrev pub HasBadValueIn : Option (Text × List Row) → Type 0
HasBadValueIn None = ⊥
HasBadValueIn (Some p) = HasBadValue p.0 p.1

-- clap refuses the words, or a value is bad
abbrev pub AreRefused : List Text → Type 0
AreRefused words = (fault_of paver_app words ≢ []) ⊎ HasBadValueIn (subcommand_of paver_app words)

-- the words are refused, or memory was wanting
abbrev pub RefusesWords : List Text → Refusal → Type 0
RefusesWords words Usage = AreRefused words
RefusesWords words Memory = Unit {0}
RefusesWords words _ = ⊥

-- the file that is asked for
abbrev pub out_of : Request → Option Text
out_of (Check system) = None
out_of (Run system settings effort out) = option_map (λ name. name.now) out
out_of (Resume system pavings settings effort share out) = option_map (λ name. name.now) out
out_of (Merge system pavings settings limit out) = option_map (λ name. name.now) out
out_of (Audit system paving settings limit workers) = None
out_of (Svg system paving settings limit view) = None
out_of (Sample circles) = None
out_of (Least system settings search) = None
out_of (Campaign system settings effort rounds) = None

-- the name of the campaign that is asked for
abbrev pub campaign_of : Request → Option Text
campaign_of (Check system) = None
campaign_of (Run system settings effort out) = None
campaign_of (Resume system pavings settings effort share out) = None
campaign_of (Merge system pavings settings limit out) = None
campaign_of (Audit system paving settings limit workers) = None
campaign_of (Svg system paving settings limit view) = None
campaign_of (Sample circles) = None
campaign_of (Least system settings search) = None
campaign_of (Campaign system settings effort rounds) = Some rounds.name.now
