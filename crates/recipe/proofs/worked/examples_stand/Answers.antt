use Rattle.std.proofs.Common.{refl}
use Rattle.recipe.proofs.worked.examples_stand.Goals as goal

pub returns : goal.returns
returns c = record {
  three_tokens = refl;
  two_tokens = refl;
  one_name = refl;
  nine_words = refl;
  calls_itself = refl;
  never_called = refl;
  argument_first = refl;
  bracket_first = refl;
  product = refl;
  to_the_left = refl;
  branches = refl;
  let_slot = refl;
  weighs = refl;
  two_functions = refl;
  shared_name = refl;
  long_text = refl;
  longest_text = refl;
  short_image = refl;
  short_table = refl;
  unknown_byte = refl;
  largest_number = refl;
  number_over = refl;
  longest_name = refl;
  name_over = refl;
  empty = refl;
  blanks_count = refl;
  no_parameter = refl;
  no_operator = refl;
  let_as_operand = refl;
  ones_32 = refl;
  ones_33 = refl;
  ones_34 = refl;
  functions_32 = refl;
  functions_33 = refl;
  parameters_8 = refl;
  parameters_9 = refl;
  nine_arguments = refl;
  constructs_2000 = refl;
  constructs_2001 = refl;
  function_twice = refl;
  parameter_twice = refl;
  unknown_variable = refl;
  unknown_function = refl;
  out_of_let = refl;
  first_counts = refl;
  channel_0 = refl;
  channel_65 = refl;
  frame_of_function = refl;
}
