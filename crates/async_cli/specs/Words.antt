-- What the words of a call ask for. A word is its bytes.
use Rattle.std.specs.Prelude.{ℕ, ◌≡◌, ◌+◌, ◌*◌, ◌-◌, ◌≤◌, ◌==◌, ◌&&◌, ◌||◌, Bool, true, is_some, nat_le, nat_lt, if◌then◌else◌, List, [], ◌∷◌, take, drop, length, Option, Some, None, option_and_then, codes}
use Rattle.std.specs.Str.{bytes_eq}
use Rattle.arguments.specs.Grammar.{Verdict, Whole, Bad, verdict}
use Rattle.ir_forms.specs.declared.args.Arg.{Arg}
use Rattle.loop_blocks.specs.declared.options.Options.{Options}
use Rattle.async_cli.specs.declared.words.Command.{Command}
use Rattle.async_cli.specs.declared.words.Command.TheVariants.{Check, Compile, Run, Source, Replay}
use Rattle.async_cli.specs.declared.words.Bounds.{Bounds}
use Rattle.async_cli.specs.declared.words.Flags.{Flags}
use Rattle.async_cli.specs.declared.words.Asked as code

-- ---- one word

abbrev pub command_of : List ℕ → Option Command
command_of word =
    if bytes_eq word (codes "check") then Some Check
    else (if bytes_eq word (codes "compile") then Some Compile
    else (if bytes_eq word (codes "run") then Some Run
    else (if bytes_eq word (codes "source") then Some Source
    else (if bytes_eq word (codes "replay") then Some Replay
    else None))))

-- the word begins like this
abbrev pub has_front : List ℕ → List ℕ → Bool
has_front front word = nat_le (length front) (length word) && bytes_eq (take (length front) word) front

-- what stands behind such a beginning
abbrev pub behind : List ℕ → List ℕ → Option (List ℕ)
behind front word = if has_front front word then Some (drop (length front) word) else None

abbrev pub is_digit : ℕ → Bool
is_digit byte = nat_le 48 byte && nat_le byte 57

-- the number that these digits write behind those of n, where it is at most the most
abbrev pub number_behind : ℕ → ℕ → List ℕ → Option ℕ
number_behind most n [] = Some n
number_behind most n (byte ∷ bytes) =
    if is_digit byte then (if nat_le (n * 10 + (byte - 48)) most then number_behind most (n * 10 + (byte - 48)) bytes else None) else None

-- a number in decimal, from 1 to the most
abbrev pub number_of : ℕ → List ℕ → Option ℕ
number_of most [] = None
number_of most (byte ∷ bytes) = option_and_then (λ n. if n == 0 then None else Some n) (number_behind most 0 (byte ∷ bytes))

-- the word is an option of this beginning, with such a number
abbrev pub sets_number : List ℕ → ℕ → List ℕ → Bool
sets_number front most word = is_some (option_and_then (number_of most) (behind front word))

-- ---- the most that can be asked for

abbrev pub most_fuel : ℕ
most_fuel = 16777216

abbrev pub most_objects : ℕ
most_objects = 65536

abbrev pub most_entries : ℕ
most_entries = 16777216

-- the most workers for which loops can be split
abbrev pub most_workers : ℕ
most_workers = 64

-- the most iterations that a block can be asked to have at least
abbrev pub most_least : ℕ
most_least = 2147483648

-- the arguments that were read
abbrev pub args_read : Verdict → Option (List Arg)
args_read (Whole args) = Some args
args_read (Bad at) = None

-- the arguments that a text says
abbrev pub args_of : List ℕ → Option (List Arg)
args_of text = args_read (verdict text)

-- a flag, or an option with a value that it can have
abbrev pub is_option : List ℕ → Bool
is_option word =
    bytes_eq word (codes "--steps")
    || (bytes_eq word (codes "--journal")
    || (bytes_eq word (codes "--print")
    || (has_front (codes "--entry=") word
    || (sets_number (codes "--fuel=") most_fuel word
    || (sets_number (codes "--objects=") most_objects word
    || (sets_number (codes "--entries=") most_entries word
    || (sets_number (codes "--num-workers=") most_workers word
    || (sets_number (codes "--min-task=") most_least word
    || is_some (option_and_then args_of (behind (codes "--args=") word))))))))))

-- ---- the words after the command

abbrev pub are_options : List (List ℕ) → Bool
are_options [] = true
are_options (word ∷ words) = is_option word && are_options words

-- how many words begin like this
abbrev pub count_of : List ℕ → List (List ℕ) → ℕ
count_of front [] = 0
count_of front (word ∷ words) = if has_front front word then count_of front words + 1 else count_of front words

-- the first value that stands behind such a beginning
abbrev pub value_of : List ℕ → List (List ℕ) → Option (List ℕ)
value_of front [] = None
value_of front (word ∷ words) = if has_front front word then Some (drop (length front) word) else value_of front words

-- no flag stands twice
abbrev pub flags_stand_once : List (List ℕ) → Bool
flags_stand_once words =
    nat_lt (count_of (codes "--steps") words) 2
    && (nat_lt (count_of (codes "--journal") words) 2 && nat_lt (count_of (codes "--print") words) 2)

-- no option with a value stands twice
abbrev pub values_stand_once : List (List ℕ) → Bool
values_stand_once words =
    nat_lt (count_of (codes "--entry=") words) 2
    && (nat_lt (count_of (codes "--fuel=") words) 2
    && (nat_lt (count_of (codes "--objects=") words) 2
    && (nat_lt (count_of (codes "--entries=") words) 2
    && (nat_lt (count_of (codes "--num-workers=") words) 2
    && (nat_lt (count_of (codes "--min-task=") words) 2 && nat_lt (count_of (codes "--args=") words) 2)))))

-- each is an option, and none stands twice
abbrev pub are_allowed : List (List ℕ) → Bool
are_allowed words = are_options words && (flags_stand_once words && values_stand_once words)

abbrev pub or_else : {A : Type 0} → A → Option A → A
or_else otherwise None = otherwise
or_else otherwise (Some value) = value

abbrev pub flags_in : List (List ℕ) → Flags
flags_in words = record {
  steps = nat_lt 0 (count_of (codes "--steps") words);
  journal = nat_lt 0 (count_of (codes "--journal") words);
  print = nat_lt 0 (count_of (codes "--print") words);
}

abbrev pub entry_in : List (List ℕ) → List ℕ
entry_in words = or_else (codes "main") (value_of (codes "--entry=") words)

-- the number behind such a beginning; else this one
abbrev pub number_in : List ℕ → ℕ → ℕ → List (List ℕ) → ℕ
number_in front most otherwise words = or_else otherwise (option_and_then (number_of most) (value_of front words))

-- how many operations may begin where a module is run in the order of its text
abbrev pub fuel_in : List (List ℕ) → ℕ
fuel_in words = number_in (codes "--fuel=") most_fuel 1000000 words

-- for how many workers parallel loops are split, and how many iterations a block has at least
abbrev pub options_in : List (List ℕ) → Options
options_in words = record {
  workers = number_in (codes "--num-workers=") most_workers 8 words;
  least = number_in (codes "--min-task=") most_least 1000 words;
}

-- how many objects may be live, and how many entries a journal may have
abbrev pub bounds_in : List (List ℕ) → Bounds
bounds_in words = record {
  objects = number_in (codes "--objects=") most_objects 4096 words;
  entries = number_in (codes "--entries=") most_entries 4194304 words;
}

-- the text of the arguments
abbrev pub args_text : List (List ℕ) → List ℕ
args_text words = or_else [] (value_of (codes "--args=") words)

-- the arguments; a text that says none stands for none
abbrev pub args_said : List ℕ → List Arg
args_said text = or_else [] (args_of text)

-- what can be asked for
abbrev pub AreBounds : Bounds → Type 0
AreBounds bounds = (bounds.objects ≤ most_objects) × (bounds.entries ≤ most_entries)

-- ---- a call

-- what a call is asked: a command and its options
pub record Asked : Type 0 where
  pub command : Command
  pub entry : List ℕ
  pub args : List Arg
  pub fuel : ℕ
  pub options : Options
  pub bounds : Bounds
  pub flags : Flags

abbrev pub seen : code.Asked → Asked
seen a = record {
  command = a.command;
  entry = a.entry.now;
  args = args_said a.args.now;
  fuel = a.fuel;
  options = a.options;
  bounds = a.bounds;
  flags = a.flags;
}

-- what these options ask of this command
abbrev pub asked_in : List (List ℕ) → Command → Asked
asked_in words command = record {
  command = command;
  entry = entry_in words;
  args = args_said (args_text words);
  fuel = fuel_in words;
  options = options_in words;
  bounds = bounds_in words;
  flags = flags_in words;
}

abbrev pub with_options : List (List ℕ) → Command → Option Asked
with_options words command = if are_allowed words then Some (asked_in words command) else None

-- the first word is a command, and the others are its options in any order, each at most once
abbrev pub asked_of : List (List ℕ) → Option Asked
asked_of [] = None
asked_of (word ∷ words) = option_and_then (with_options words) (command_of word)

-- the words ask for this command, with these options
abbrev pub AsksFor : Command → List (List ℕ) → Asked → Type 0
AsksFor command words asked = (asked_of words ≡ Some asked) × (asked.command ≡ command)

-- the words don't ask for this command
abbrev pub AsksNot : Command → List (List ℕ) → Type 0
AsksNot command words = (asked : Asked) → AsksFor command words asked → ⊥

-- the name of the entry in the words behind the first
abbrev pub entry_asked : List (List ℕ) → List ℕ
entry_asked [] = codes "main"
entry_asked (word ∷ words) = entry_in words
